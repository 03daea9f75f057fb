pub mod Missing
pub mod Bounds
pub mod Progress
pub mod Steps
pub mod Laws
