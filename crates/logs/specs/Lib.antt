pub mod Heads
pub mod Numbers
pub mod Parts
pub mod Printing
pub mod Reading
pub mod Sayable
pub mod Statements
pub mod Troubles
