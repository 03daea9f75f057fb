pub mod Asking
pub mod Codes
pub mod Worked
pub mod Naming
pub mod Printing
pub mod Writing
pub mod Running
pub mod Showing
