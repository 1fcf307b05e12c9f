pub mod Policies
pub mod Maps
pub mod Timers
pub mod Programs
pub mod Reading
pub mod Building
