mod CheckText
mod Saying
mod Statuses
pub mod Refusals
pub mod WantOfMemory
