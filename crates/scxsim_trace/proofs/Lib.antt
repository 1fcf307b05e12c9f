pub mod Going
pub mod Tracing
pub mod Reporting
pub mod Digits
mod Showing
