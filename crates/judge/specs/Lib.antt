-- What the judge says is defined in crate rules. Here are terms of the code: a reader may skip them.
pub mod Inner
