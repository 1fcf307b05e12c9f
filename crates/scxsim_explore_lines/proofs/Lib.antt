mod Rest
mod Places
mod Clocks
mod Each
pub mod Written
