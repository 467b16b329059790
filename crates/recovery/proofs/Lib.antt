pub mod Waking
pub mod Replayed
