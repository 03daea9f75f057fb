pub mod Stopping
pub mod Campaigns
pub mod Laws
pub mod Runs
