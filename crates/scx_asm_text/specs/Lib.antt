pub mod Options
pub mod Symbols
pub mod Tokens
pub mod Names
pub mod Items
pub mod Canonical
pub mod Laws
