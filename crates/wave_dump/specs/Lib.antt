pub mod Dump
pub mod Asked
pub mod Laws
pub mod Steps
