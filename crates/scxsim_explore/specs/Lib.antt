pub mod Words
pub mod Telling
pub mod Lists
pub mod Beginning
pub mod Unfound
