pub mod Charts
pub mod Marks
pub mod Times
