pub mod Together
pub mod PairPlanes
pub mod PairText
pub mod Laws
pub mod Work
pub mod Crews
