pub mod Admissible
pub mod Admitted
pub mod Lawful
pub mod Least
pub mod Orphans
pub mod Present
