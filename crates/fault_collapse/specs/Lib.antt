pub mod Outcomes
pub mod Chosen
