-- What the public functions promise settles their answers.
pub mod Settled
