-- How a refusal is decided: a chain of tests, each with its number.
pub mod Check
-- What refuses a file, by number.
pub mod Refusals
-- What a run file says, where its bytes stand, and the number that refuses it.
pub mod File
-- The ranges of a run file, and the file as bytes.
pub mod Encode
-- Files, each with its number.
pub mod Worked
-- Terms of the code: a reader may skip them.
pub mod Inner
