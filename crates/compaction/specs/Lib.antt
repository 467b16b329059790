pub mod Carry
pub mod Laid
