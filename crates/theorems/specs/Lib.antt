-- Demand 3: every log that the bench writes without gone-round takes is accepted; and of the programs, by what they promise.
pub mod EveryLogAccepted
-- What is left on the table (C-17).
pub mod Left
-- Tags, resets and gone-round takes.
pub mod Tags
-- The run's step and the desk's are the same, and a run can be replayed at the desk.
pub mod SameStep
pub mod Replay
-- Top and tag in one word: every step, log and count is as before, and the desk shows the same.
pub mod OneWord
-- The worked runs K1 to K8, K10 and K14 in one statement, computed; and the wrong programs that document 01 shuts out by name.
pub mod WorkedRuns
pub mod ShutOut
