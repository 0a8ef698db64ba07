-- That the promise settles its answer.
pub mod Settled
