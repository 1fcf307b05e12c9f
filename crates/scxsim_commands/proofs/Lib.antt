mod Parts
mod Accepting
pub mod Causes
mod Judging
mod Lining
pub mod Parting
