-- The judge's number is 0 exactly for an accepted log.
pub mod AcceptedLaws
-- Old logs: a result 3 made 0 changes no verdict.
pub mod OldLaws
-- What is left in the queues, and demand 3's words of every accepted log (C-17).
pub mod LeftLaws
-- Rule 6: the test and the statement, by place and by moments.
pub mod Rule6Laws
-- Searches, what an entry says, what a queue holds, and a judge that asks one rule after the other.
pub mod SearchLaws
pub mod CountLaws
pub mod FieldLaws
pub mod KeptLaws
pub mod ContentLaws
pub mod VerdictLaws
-- Each public function's promise settles its result.
pub mod Settled
