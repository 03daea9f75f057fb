pub mod Posting
pub mod Merging
pub mod Ending
