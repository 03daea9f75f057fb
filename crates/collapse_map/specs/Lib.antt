pub mod Fixed
pub mod Next
pub mod Collapsed
pub mod Same
pub mod Looks
pub mod Wants
pub mod Settled
pub mod Numbers
