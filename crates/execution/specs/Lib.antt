pub mod Plans
pub mod Walk
pub mod Obey
pub mod Room
