-- What `run` promises stands in the crate `runs`. What the bench holds for a state of a run.
pub mod Held
-- Terms of the code: a reader may skip them.
pub mod Inner
