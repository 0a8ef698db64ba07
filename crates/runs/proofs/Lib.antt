-- One step: its counts, and what it keeps of a call's kind.
pub mod TurnLaws
pub mod KindLaws
-- A run: inductions over it, its end, its calls and its entries.
pub mod Induction
pub mod HalfLaws
pub mod ClosingLaws
pub mod BegunLaws
pub mod EntriesLaws
-- In every state that steps reach, word and stages are in range.
pub mod Sound
pub mod Reached
pub mod Scripts
pub mod States
pub mod InRange
-- Result 3 is written exactly for NIL at T4.
pub mod LostLaws
-- Each call makes at most 3, 4 or 7 own steps.
pub mod OwnLaws
-- Of the promise of `run_len`: the front part of the buffer.
pub mod PromiseLaws
pub mod Shown
