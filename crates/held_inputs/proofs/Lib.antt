mod Greatest
mod Whole
mod Kept
