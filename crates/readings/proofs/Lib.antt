mod Telling
pub mod Intervals
mod Exciting
mod Pulsing
pub mod Transients
mod Rows
mod Files
mod AlarmRows
mod GoalRows
pub mod Seeing
