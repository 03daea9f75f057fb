pub mod Exciting
