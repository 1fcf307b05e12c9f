pub mod Growing
pub mod Refusing
