pub mod Unalarmed
pub mod Planes
pub mod Settled
pub mod Rings
pub mod LentWords
pub mod Listing
pub mod Whole
pub mod Fits
mod Mapped
mod FileRows
pub mod Raised
pub mod Still
pub mod Passed
