-- What a mark alters; and that the promise settles the answer.
pub mod MarkLaws
pub mod Settled
