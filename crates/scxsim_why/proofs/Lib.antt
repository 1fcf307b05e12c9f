mod Found
pub mod Written
