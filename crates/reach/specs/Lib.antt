pub mod Paths
pub mod Reached
pub mod Search
