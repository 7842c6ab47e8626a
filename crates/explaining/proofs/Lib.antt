pub mod Digits
pub mod Each
pub mod Enough
pub mod Held
pub mod Listed
pub mod Written
