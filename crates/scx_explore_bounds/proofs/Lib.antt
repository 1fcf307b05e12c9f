mod Slots
pub mod Told
mod Tables
mod EachProgram
pub mod Done
