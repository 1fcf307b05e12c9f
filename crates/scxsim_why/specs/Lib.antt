pub mod Findings
pub mod Pages
pub mod Json
