mod First
pub mod Lawful
