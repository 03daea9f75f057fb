pub mod Words
pub mod Report
pub mod Steps
pub mod Rows
pub mod Rooms
pub mod Tallies
