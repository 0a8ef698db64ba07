pub mod Entries
-- Terms of the code: a reader may skip them.
pub mod Order
pub mod Orders
pub mod Replay
pub mod Causes
pub mod Full
