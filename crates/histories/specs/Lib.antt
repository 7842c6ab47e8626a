pub mod Calls
pub mod Opcodes
