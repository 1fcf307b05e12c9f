pub mod Pieces
pub mod Growth
pub mod Beginnings
pub mod Shorts
pub mod Holding
