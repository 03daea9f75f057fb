pub mod Latency
pub mod Work
pub mod Fields
