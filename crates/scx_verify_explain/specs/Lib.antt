pub mod Listings
pub mod Named
pub mod Places
pub mod Reasons
pub mod Said
pub mod Leading
pub mod Lost
pub mod Laws
