pub mod Accepted
pub mod Claimed
pub mod LastLines
pub mod Reading
pub mod Sound
pub mod Taking
pub mod Truth
