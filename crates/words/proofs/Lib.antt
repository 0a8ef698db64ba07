-- That the promises settle their answers.
pub mod Settled
