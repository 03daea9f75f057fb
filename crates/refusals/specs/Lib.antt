pub mod Texts
pub mod NetlistFile
pub mod RefusalLines
pub mod Said
pub mod Refusals
pub mod Steps
pub mod WantOfMemory
