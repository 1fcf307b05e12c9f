pub mod Ended
pub mod Lasting
pub mod Telling
pub mod Heard
pub mod Ejected
