pub mod Views
pub mod Seats
pub mod Rules
pub mod Plays
pub mod Shown
pub mod Steps
pub mod Crews
