pub mod Comparing
pub mod Sharing
mod Ratios
pub mod Bounding
mod Narrowing
pub mod Targeting
mod Rowing
mod Ending
pub mod Grouping
