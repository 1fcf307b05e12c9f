pub mod Values
pub mod Places
mod Belonging
mod Holding
mod Determined
