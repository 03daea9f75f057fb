mod Lists
mod Showing
mod Adding
mod Loaded
mod Rows
