pub mod Text
pub mod Turns
pub mod Work
