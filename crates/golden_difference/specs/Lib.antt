pub mod Beside
pub mod Lanes
