pub mod OneWord
pub mod RunThenJudge
pub mod RunThenLeft
pub mod ShutOut
