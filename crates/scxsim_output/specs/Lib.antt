pub mod Texts
pub mod Output
pub mod Held
