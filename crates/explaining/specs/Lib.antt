pub mod Accounts
pub mod Ends
pub mod Headings
pub mod Memory
pub mod Orders
pub mod Reasons
pub mod Records
pub mod Rows
