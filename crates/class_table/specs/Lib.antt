pub mod ClassTable
pub mod ClassLines
