pub mod Finding
pub mod Marks
pub mod Resting
