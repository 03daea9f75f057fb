pub mod Testbench
pub mod Load
pub mod Points
pub mod Seen
pub mod Resting
