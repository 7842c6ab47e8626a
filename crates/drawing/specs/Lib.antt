pub mod Axis
pub mod Bars
pub mod Elements
pub mod Geometry
pub mod Lanes
pub mod Words
