pub mod Readers
pub mod Edges
pub mod Kept
