pub mod RowLemmas
pub mod Settling
pub mod Sources
pub mod Simulating
