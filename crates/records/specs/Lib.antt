-- What a run is stands in crate `runs`. Here are terms of the code: a reader may skip them.
pub mod Inner
