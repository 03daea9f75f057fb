pub mod Truth
pub mod Workplaces
pub mod Rounds
pub mod Finish
pub mod LentBoard
