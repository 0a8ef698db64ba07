-- How a state lies in the program's structs and arrays.
pub mod LayoutLaws
pub mod Held
-- The program's loop, the ways through a turn of it, and what it gives.
pub mod WalkLaws
pub mod WayLaws
pub mod RunLaws
pub mod TableLaws
pub mod FinishLaws
pub mod GoodLaws
pub mod Settled
