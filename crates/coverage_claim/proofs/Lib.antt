pub mod Ruling
pub mod Lasting
mod Windows
mod Worked
