pub mod Assembly
pub mod Disassembly
pub mod RoundTrips
pub mod Words
