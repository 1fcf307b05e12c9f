pub mod Uses
pub mod Events
pub mod Repeats
pub mod Forms
pub mod Told
