pub mod Numbers
pub mod Passing
pub mod Following
pub mod Remaining
pub mod Accepting
pub mod Keys
pub mod Listing
pub mod Meaning
pub mod Scenarios
mod Beginning
mod SameParts
mod Filing
