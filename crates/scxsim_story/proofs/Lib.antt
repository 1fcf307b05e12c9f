pub mod Hearing
pub mod Refusing
