pub mod Answers
pub mod Times
pub mod Few
pub mod Driven
pub mod Once
pub mod Putting
pub mod Brought
pub mod Sound
