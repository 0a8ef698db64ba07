-- Two answers that one promise allows are equal.
pub mod Settled
