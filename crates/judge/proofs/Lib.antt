-- The entries of a whole log, and what a pass finds.
pub mod EntriesLaws
-- Whether a node is among others.
pub mod AmongLaws
-- Each public function's promise settles its result.
pub mod Settled
-- A queue's nodes as a part of an array.
pub mod DequeLaws
-- One rule each, as the code goes through them.
pub mod EndLaws
pub mod InsertLaws
pub mod OrderLaws
pub mod ReplayLaws
pub mod NodeLaws
pub mod RowLaws
pub mod ShelfLaws
pub mod CauseLaws
pub mod FullLaws
-- The keys of a log, for who goes through its calls.
pub mod KeyLaws
