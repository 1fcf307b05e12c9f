pub mod Moments
pub mod Stepping
