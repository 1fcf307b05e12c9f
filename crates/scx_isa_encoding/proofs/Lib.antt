pub mod Bytes
pub mod Codes
pub mod Classes
pub mod Insns
