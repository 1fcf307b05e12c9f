pub mod Codes
pub mod Counts
pub mod Control
pub mod Programs
mod FirstFaults
mod Loop
