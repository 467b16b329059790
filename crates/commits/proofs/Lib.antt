pub mod Saying
pub mod Rowed
pub mod Paged
pub mod Committed
pub mod Pieces
