pub mod Dividing
pub mod Adding
pub mod Showing
pub mod Telling
