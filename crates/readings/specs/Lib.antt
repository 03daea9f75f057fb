pub mod Breakdown
pub mod Latencies
pub mod Laws
pub mod PointsRows
