pub mod Rows
pub mod Numbers
pub mod Stretches
mod Masks
