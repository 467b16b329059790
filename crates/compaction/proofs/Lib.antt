pub mod Placed
pub mod Paged
pub mod Setup
