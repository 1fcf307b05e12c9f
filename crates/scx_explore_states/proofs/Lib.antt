pub mod Queries
pub mod Pointers
pub mod Endless
mod Eight
mod Placed
mod Putting
mod Pairs
mod Spots
pub mod Telling
