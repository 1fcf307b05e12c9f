pub mod Places
pub mod Spells
