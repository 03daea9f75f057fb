pub mod Boards
pub mod Kept
pub mod Posts
pub mod AsResult
pub mod Missing
pub mod Headed
pub mod Sharing
