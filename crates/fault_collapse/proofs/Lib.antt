pub mod Alike
pub mod Choosing
pub mod Rounds
