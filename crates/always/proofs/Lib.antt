mod Standing
mod Whole
mod Printing
mod Holding
mod Tallying
mod Summing
mod Telling
mod Worked
pub mod Asking
