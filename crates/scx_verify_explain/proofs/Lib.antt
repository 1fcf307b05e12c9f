mod Lookups
mod Ends
mod Coming
mod Leading
mod Sums
mod Tracks
