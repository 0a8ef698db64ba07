-- Chains of tests, and the table of marks, as the code goes through them.
pub mod CheckLaws
pub mod MarkLaws
-- The reader's answer, from the number and the counts.
pub mod ReadLaws
-- Two answers that the promise allows are equal.
pub mod Settled
