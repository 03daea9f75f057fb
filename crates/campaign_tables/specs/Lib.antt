pub mod Csv
pub mod Words
pub mod FaultTable
pub mod FaultSteps
pub mod PartTable
pub mod PartSteps
pub mod Counted
