pub mod Placing
pub mod Choosing
