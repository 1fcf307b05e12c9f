pub mod Places
pub mod Below
mod Bound
mod Rows
mod Told
pub mod Merging
mod Processors
mod Awake
mod Waking
mod Lost
mod Whole
mod Staying
mod Reading
