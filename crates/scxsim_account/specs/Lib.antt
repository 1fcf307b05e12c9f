pub mod Idling
pub mod LastCalls
