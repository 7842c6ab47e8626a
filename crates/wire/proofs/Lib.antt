pub mod Digits
pub mod Found
pub mod InOrder
pub mod Pens
pub mod Walk
