pub mod Listing
pub mod Next
pub mod Paired
pub mod Records
pub mod Rules
pub mod Views
pub mod Worth
