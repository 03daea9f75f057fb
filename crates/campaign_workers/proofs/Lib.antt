pub mod Owing
pub mod RoundByRound
pub mod RoundsEnd
pub mod Hiring
pub mod Ends
pub mod Sends
pub mod Workshops
