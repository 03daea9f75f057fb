pub mod Lines
pub mod Placed
pub mod Read
pub mod Left
