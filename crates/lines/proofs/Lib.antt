pub mod Packing
pub mod Copies
pub mod Splices
pub mod Turned
pub mod Found
pub mod Words
