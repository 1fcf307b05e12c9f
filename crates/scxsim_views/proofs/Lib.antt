mod Pausing
pub mod Keeping
mod Shifting
pub mod Percentiles
pub mod Adding
mod Levels
