pub mod InRange
pub mod StepsLeft
