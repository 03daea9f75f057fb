pub mod Picking
pub mod Spreading
pub mod Faulted
pub mod Bounded
pub mod Parted
pub mod Opened
pub mod Given
