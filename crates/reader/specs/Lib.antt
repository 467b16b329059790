pub mod Front
pub mod Given
pub mod Words
