-- What is left is defined in crate rules. Here are terms of the code: a reader may skip them.
pub mod Inner
