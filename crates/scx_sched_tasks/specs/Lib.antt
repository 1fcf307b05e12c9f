pub mod Tasks
pub mod Waits
pub mod Kept
