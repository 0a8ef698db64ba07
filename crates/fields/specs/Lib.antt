-- What an entry says is defined in crates log and rules. Here are terms of the code: a reader may skip them.
pub mod Inner
