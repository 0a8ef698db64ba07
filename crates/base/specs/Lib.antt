-- The words in which all definitions are written.
pub mod Words
-- Bytes, and numbers of two bytes.
pub mod Bytes
-- Lists: of the first values of a function, and what holds of all elements and of all pairs.
pub mod Lists
-- A few computed.
pub mod Worked
