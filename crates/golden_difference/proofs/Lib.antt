pub mod Exclusive
pub mod Apart
pub mod Walked
pub mod NextCycle
pub mod Sources
pub mod Over
