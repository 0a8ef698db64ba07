-- What the desk's promise says in document 01's words; and that the promise settles the answer.
pub mod DeskLaws
pub mod Settled
