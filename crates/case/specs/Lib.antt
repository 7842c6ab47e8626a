pub mod Calls
pub mod Loading
pub mod Parts
pub mod State
pub mod Views
