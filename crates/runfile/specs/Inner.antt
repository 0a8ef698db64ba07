-- Terms of the code: a reader may skip them.
pub mod Counts
