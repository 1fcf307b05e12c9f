pub mod Watching
pub mod Pauses
pub mod Keys
pub mod BoundTasks
pub mod Lengths
pub mod Percentiles
pub mod Claims
