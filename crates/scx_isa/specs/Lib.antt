pub mod Spelling
pub mod Faults
pub mod Reading
pub mod FirstFault
pub mod Flow
pub mod Laws
