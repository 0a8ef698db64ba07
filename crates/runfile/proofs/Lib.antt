-- Chains of tests, and the calls of a file.
pub mod CheckLaws
pub mod CallLaws
-- What number 0 says of a file, test by test, both ways; what the reader's answer says of it.
pub mod GoodLaws
pub mod ReadingLaws
pub mod NumberLaws
-- The bytes of a file by sections. What is read as good is in range, and its encoding is the bytes that were read.
pub mod SectionBytes
pub mod RangeLaws
pub mod DecodeLaws
-- Every record in range is encoded in bytes, and read back as itself.
pub mod EncodeLaws
pub mod ByteLaws
-- A proper prefix of a good file gives 1; bytes after it give 7.
pub mod PrefixLaws
-- What the accessors give of a good file.
pub mod AccessLaws
-- Two answers that one promise allows are equal.
pub mod Settled
