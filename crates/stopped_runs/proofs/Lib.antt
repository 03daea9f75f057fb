pub mod Noting
pub mod Giving
pub mod RowsTrue
pub mod Ending
pub mod Resuming
pub mod Telling
