pub mod Keys
pub mod Worked
