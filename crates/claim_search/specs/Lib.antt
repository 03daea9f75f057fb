pub mod Question
pub mod Window
pub mod LeadIn
pub mod Answer
pub mod Sites
pub mod Faults
pub mod Hypotheses
pub mod Forced
