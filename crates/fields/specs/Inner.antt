-- Terms of the code: a reader may skip them.
pub mod Fields
pub mod Took
pub mod Ends
