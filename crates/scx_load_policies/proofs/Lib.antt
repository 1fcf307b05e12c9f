mod Timing
mod Within
mod Built
mod Placing
pub mod Seeding
