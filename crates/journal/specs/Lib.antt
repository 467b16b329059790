pub mod Machine
pub mod Log
pub mod Values
pub mod Tapes
pub mod Small
pub mod Room
pub mod Laws
