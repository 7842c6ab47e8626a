pub mod Admission
pub mod Back
pub mod Refusals
pub mod Runs
pub mod Strange
pub mod StrangeNumbers
pub mod Written
