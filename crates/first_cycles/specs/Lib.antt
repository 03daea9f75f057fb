pub mod FirstCycles
pub mod Shown
pub mod Laws
