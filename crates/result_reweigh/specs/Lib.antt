pub mod Reweighed
pub mod Laws
