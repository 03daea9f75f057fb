pub mod Bits
pub mod Gates
pub mod Loads
pub mod Forces
pub mod Bank
