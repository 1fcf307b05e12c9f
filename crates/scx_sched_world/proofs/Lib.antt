pub mod Busy
pub mod Few
mod Parked
pub mod Fronts
mod Members
mod Records
pub mod Likes
mod Places
mod Running
mod Scans
mod Settled
pub mod Empty
mod Keeping
mod Entering
mod Picks
mod Randoms
mod Inserting
pub mod Quiet
