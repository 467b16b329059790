pub mod Acts
pub mod Setters
pub mod Bounds
pub mod News
pub mod Rows
pub mod Putting
