-- Searches over indices, in which the rules are put.
pub mod Search
-- Which nodes a queue holds at each instant, by the calls' moments.
pub mod Contents
-- Document 01's six rules: when an entry breaks each.
pub mod Rules
-- What the judge says of a log's bytes: the contract of `judge`.
pub mod Judge
-- The same rules read aloud: when a log is accepted.
pub mod Accepted
-- Old logs are judged as before.
pub mod OldLogs
-- What is left in the queues (C-17).
pub mod Left
-- Worked logs, computed.
pub mod Worked
