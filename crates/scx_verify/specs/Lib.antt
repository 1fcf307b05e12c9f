pub mod Typing
pub mod Forward
pub mod Faults
pub mod Translation
pub mod Operations
pub mod Indices
pub mod Pass
pub mod Laws
