pub mod Numbers
pub mod Registers
pub mod Sections
pub mod Abstract
pub mod Commit
pub mod Laws
pub mod Bounds
