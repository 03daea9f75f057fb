pub mod Audited
pub mod Laws
pub mod Loaded
pub mod Alone
pub mod Watched
pub mod Simulated
