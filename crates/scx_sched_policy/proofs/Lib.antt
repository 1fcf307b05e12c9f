pub mod InVain
pub mod Copying
