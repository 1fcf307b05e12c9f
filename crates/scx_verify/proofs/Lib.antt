pub mod Least
pub mod Targets
pub mod Visits
pub mod Safe
pub mod Agreement
pub mod Justified
pub mod Choices
pub mod Positions
mod Pushes
mod Building
mod Walks
mod Indices
pub mod Following
pub mod Underway
