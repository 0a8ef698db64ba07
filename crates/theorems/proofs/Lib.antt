-- One queue: its owner and its thieves.
pub mod Queue
-- All queues together.
pub mod Queues
-- The rules, and acceptance.
pub mod Rules
-- Tags and resets.
pub mod Tags
-- A run replayed at the desk.
pub mod Replay
-- What the programs promise: a run judged, and the wrong programs that are shut out.
pub mod Programs
