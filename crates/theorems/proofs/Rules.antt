pub mod Accepted
pub mod Left
pub mod Room
pub mod Rules
