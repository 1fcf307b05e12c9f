pub mod Values
pub mod Tables
