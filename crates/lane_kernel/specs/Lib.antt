pub mod Walk
pub mod Ends
pub mod Marks
pub mod Kernel
