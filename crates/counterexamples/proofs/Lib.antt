pub mod Contradicting
pub mod Seeing
pub mod Loading
