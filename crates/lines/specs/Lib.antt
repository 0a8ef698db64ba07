-- What a line typed at the desk says.
pub mod Line
-- Computed: lines.
pub mod Worked
-- Why a line is not run, as it is said.
pub mod Shown
