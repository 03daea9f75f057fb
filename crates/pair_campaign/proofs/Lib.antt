pub mod TrueRows
pub mod ByBits
pub mod Telling
pub mod Masking
pub mod Within
pub mod Gathering
pub mod Counting
pub mod Rounds
