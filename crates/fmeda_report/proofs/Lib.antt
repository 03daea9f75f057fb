pub mod Placing
pub mod Summing
pub mod Tallying
pub mod Naming
pub mod TrueReport
pub mod Grouping
