-- The promise settles the answer and the keys.
pub mod Settled
