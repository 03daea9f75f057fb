pub mod Earliest
pub mod Lists
pub mod Laws
pub mod Shows
pub mod Bits
pub mod Adding
