pub mod Pairs
pub mod Choice
pub mod Steps
pub mod Tables
