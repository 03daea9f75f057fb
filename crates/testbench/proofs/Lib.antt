pub mod LoadIsKept
pub mod Resting
pub mod Words
pub mod SeenMore
