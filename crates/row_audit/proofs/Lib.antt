pub mod Stepped
pub mod Views
pub mod Ends
pub mod Steps
pub mod Banks
pub mod Rows
