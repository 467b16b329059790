pub mod Right
pub mod Steps
