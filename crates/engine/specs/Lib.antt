pub mod State
pub mod Fits
pub mod Packing
pub mod Phases
pub mod Machine
