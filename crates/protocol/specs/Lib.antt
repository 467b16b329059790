pub mod Events
pub mod Acts
pub mod Stepping
