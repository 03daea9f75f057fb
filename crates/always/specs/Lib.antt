pub mod Verdict
pub mod Text
pub mod Laws
pub mod Tally
pub mod Steps
pub mod Asked
