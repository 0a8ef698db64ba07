-- The log's numbers: kinds, results, and what a call did.
pub mod Numbers
-- What stands in a log's bytes.
pub mod Decode
-- A log as bytes, the ranges, and the way back.
pub mod Encode
-- A few computed.
pub mod Worked
