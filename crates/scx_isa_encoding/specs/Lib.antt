pub mod Slots
pub mod Opcodes
pub mod Spelling
pub mod Reading
pub mod Faults
