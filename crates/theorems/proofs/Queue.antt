pub mod Cases
pub mod Content
pub mod Inv
pub mod Keeps
pub mod Lists
pub mod Memory
pub mod OwnerTurn
pub mod ThiefTurn
