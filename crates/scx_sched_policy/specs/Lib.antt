pub mod Policy
pub mod Vain
