pub mod Slices
pub mod Cuts
pub mod FirstBytes
pub mod Told
pub mod Texts
