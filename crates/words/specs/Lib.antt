-- The words of a line: how many, what the first one spells, and the next four as numbers.
pub mod Words
