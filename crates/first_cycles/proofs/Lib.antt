pub mod Firsts
pub mod Several
mod Deciding
mod Leaving
pub mod Dangers
pub mod Notices
pub mod Showing
mod Idle
