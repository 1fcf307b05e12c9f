pub mod Occurrences
pub mod Stories
