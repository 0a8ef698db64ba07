pub mod Counted
pub mod Half
pub mod Left
pub mod Sound
