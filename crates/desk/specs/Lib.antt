-- The desk's step: its answer, and the word and the slots after it.
pub mod Desk
-- What it refuses.
pub mod Refusals
-- Computed: steps at the desk.
pub mod Worked
