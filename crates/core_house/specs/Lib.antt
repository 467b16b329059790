pub mod Machine
pub mod Entry
