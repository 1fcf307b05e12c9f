pub mod Counts
pub mod Each
pub mod Least
