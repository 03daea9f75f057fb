pub mod Faults
pub mod Kept
pub mod Stretch
pub mod Answers
