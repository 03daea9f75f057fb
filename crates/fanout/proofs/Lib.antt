pub mod Counting
pub mod Filling
pub mod Reading
pub mod Pushing
pub mod Inside
