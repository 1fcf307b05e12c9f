pub mod Growing
mod Sketched
