mod Outcomes
pub mod Numbers
pub mod Bytes
pub mod CarryingOver
pub mod EndedRuns
mod EachMade
pub mod Lists
