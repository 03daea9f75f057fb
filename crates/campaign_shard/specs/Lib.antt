pub mod PartSeats
pub mod LeftPart
pub mod RanPart
pub mod PartSteps
pub mod MergedParts
