pub mod Queues
pub mod Places
pub mod Finding
