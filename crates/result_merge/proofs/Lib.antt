pub mod Spans
pub mod Unions
pub mod Looking
pub mod Merging
pub mod Tabling
pub mod Rowing
pub mod Differing
