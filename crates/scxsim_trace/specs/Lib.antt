pub mod Lines
pub mod Report
pub mod Observing
pub mod Runs
pub mod Writing
pub mod Tracing
