-- The state of a run, and its start.
pub mod State
-- The entry of a finished call, and its moment.
pub mod Moment
-- One step of a run.
pub mod Turn
-- The schedule, the closing, and everything that a run gives.
pub mod Run
-- What `run` promises of it.
pub mod Promise
-- The states that a run goes through.
pub mod States
-- What is shown of every run.
pub mod Shown
-- K1 to K8 and K13, computed.
pub mod Worked
-- Terms of the code: a reader may skip them.
pub mod Inner
