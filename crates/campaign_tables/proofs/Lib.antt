pub mod Quoting
mod Keeping
mod Counting
mod Looking
