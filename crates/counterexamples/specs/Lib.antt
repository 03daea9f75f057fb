pub mod Contradicted
pub mod Runs
