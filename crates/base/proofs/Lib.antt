-- Laws of choices, truth values, lists and bytes, for the proofs of this crate and of the crates above it.
pub mod Cases
pub mod Bools
pub mod Lists
pub mod Bytes
pub mod Settled
