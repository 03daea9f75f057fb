pub mod Sets
pub mod Rows
pub mod Choices
pub mod Ends
pub mod FourPairs
pub mod Words
pub mod TwoNets
pub mod Nets
