pub mod Faults
pub mod Names
pub mod Paths
pub mod Keys
pub mod Values
pub mod Unknown
pub mod EventFaults
