pub mod Listed
pub mod Explained
pub mod One
pub mod VerdictObjects
