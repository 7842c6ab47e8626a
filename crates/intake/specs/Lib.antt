pub mod Arguments
pub mod Limits
