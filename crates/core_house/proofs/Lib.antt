pub mod Tamed
pub mod Answers
pub mod Right
pub mod Steps
pub mod Dispatch
