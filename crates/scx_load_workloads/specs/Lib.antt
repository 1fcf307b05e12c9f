pub mod Limit
pub mod CpuLists
pub mod Workload
pub mod Reading
pub mod KeptNames
pub mod Kept
pub mod Laws
