pub mod ReplayLaws
pub mod ReplayStep
pub mod SameStep
