mod Listing
mod Taking
mod Telling
mod Objects
mod Tokens
