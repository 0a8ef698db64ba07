-- The tag.
pub mod Tag
-- Where a stage stands, and what it carries.
pub mod Stages
-- A stage as it is typed.
pub mod Shown
-- What can be stepped: document 01's conditions at the desk.
pub mod Range
-- Computed.
pub mod Worked
-- Terms of the code: a reader may skip them.
pub mod Inner
