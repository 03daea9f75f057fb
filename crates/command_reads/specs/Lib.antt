pub mod Files
pub mod FirstRefusal
pub mod Answers
pub mod Judging
