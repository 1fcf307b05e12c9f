mod Copies
mod Ended
mod Named
mod Started
mod KeptWhole
mod PlainTimers
mod Sure
mod Told
