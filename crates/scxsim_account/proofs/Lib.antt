mod LastHeard
mod Waiting
