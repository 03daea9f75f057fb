mod Finding
mod Lying
mod Waiting
mod Watching
mod Alarming
mod Endangering
mod Summing
