pub mod History
pub mod Output
pub mod Promise
