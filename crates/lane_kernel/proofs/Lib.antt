pub mod OneGate
pub mod Sources
pub mod Marking
pub mod Transients
