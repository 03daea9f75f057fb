pub mod Recording
pub mod Recorded
pub mod Events
pub mod Simulated
