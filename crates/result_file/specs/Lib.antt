pub mod ResultText
pub mod KeptRows
pub mod RowPlanes
pub mod Numbers
pub mod Reading
pub mod Answers
pub mod Feeding
pub mod Steps
