-- How a rack splits, file by file, and the walk over its lengths.
pub mod SplitLaws
-- One reply, from what a run gives.
pub mod ReplyLaws
-- A rack's replies and log buffer are those of single calls.
pub mod SinglyLaws
-- The files run from the front, and what they leave in both buffers.
pub mod RunLaws
-- The three answers.
pub mod AnswerLaws
-- A rack written and split again, and split and written again.
pub mod RoundLaws
-- Two answers that one promise allows are equal.
pub mod Settled
