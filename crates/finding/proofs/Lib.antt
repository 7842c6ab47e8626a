pub mod Kept
pub mod Marks
pub mod Numbers
pub mod Premises
