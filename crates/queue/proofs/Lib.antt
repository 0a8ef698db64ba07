-- What the step promises settles its answer.
pub mod Settled
