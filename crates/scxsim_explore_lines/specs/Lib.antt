pub mod Found
pub mod Causes
pub mod Summary
pub mod Sought
