pub mod Eight
pub mod Numbered
pub mod Stepping
