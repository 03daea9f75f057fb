pub mod Unreached
pub mod Finding
pub mod Cones
pub mod Observed
