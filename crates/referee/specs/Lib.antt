pub mod Faults
pub mod Lines
pub mod Papers
pub mod Parts
pub mod Ruling
pub mod Runs
pub mod Taken
pub mod Truth
