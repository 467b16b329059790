pub mod Lines
pub mod Pages
pub mod Checked
pub mod Laws
pub mod Values
