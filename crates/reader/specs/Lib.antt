-- What a run file says is defined in crate runfile. Here are terms of the code: a reader may skip them.
pub mod Inner
