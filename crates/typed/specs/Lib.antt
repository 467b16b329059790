pub mod Meaning
pub mod Answer
