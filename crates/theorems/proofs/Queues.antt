pub mod Act
pub mod Assemble
pub mod Kept
pub mod Origins
pub mod Whole
