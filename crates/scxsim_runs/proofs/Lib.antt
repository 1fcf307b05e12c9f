pub mod Shapes
pub mod Running
mod Passing
mod Causing
pub mod PartCauses
pub mod Either
mod ScenarioCauses
