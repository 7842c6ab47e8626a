pub mod Orders
pub mod Parts
pub mod Placing
pub mod Steps
pub mod Views
