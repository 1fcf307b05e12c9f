mod Watching
pub mod Times
