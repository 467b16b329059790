pub mod Kept
pub mod Resolve
pub mod Plan
pub mod Turn
pub mod Smalls
pub mod Held
pub mod Code
