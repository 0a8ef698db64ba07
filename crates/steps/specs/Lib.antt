-- The steps of the queue: document 01's table.
pub mod Step
-- The same steps with top and tag in one word.
pub mod Packed
-- The table at its edges, computed.
pub mod Worked
-- What follows a step, as it is printed.
pub mod Shown
