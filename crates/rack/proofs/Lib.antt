-- Two answers that the promise allows are equal.
pub mod Settled
