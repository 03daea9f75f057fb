pub mod Nets
pub mod Answers
pub mod Steps
pub mod PartSteps
