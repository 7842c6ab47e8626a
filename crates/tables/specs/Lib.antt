pub mod Rows
pub mod Texts
pub mod Widths
pub mod Forms
pub mod Reading
pub mod Printing
pub mod Requests
