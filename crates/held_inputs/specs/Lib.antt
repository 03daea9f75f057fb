pub mod HeldFile
pub mod HeldKept
pub mod First
pub mod Steps
