mod Refusing
mod Summing
mod Told
mod Written
