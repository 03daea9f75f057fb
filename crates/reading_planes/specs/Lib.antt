pub mod Readings
pub mod Folded
pub mod Simulator
