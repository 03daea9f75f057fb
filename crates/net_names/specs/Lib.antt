pub mod Nets
pub mod Driven
pub mod Drivers
