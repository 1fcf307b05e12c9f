pub mod Clocks
pub mod Stretches
pub mod Pages
