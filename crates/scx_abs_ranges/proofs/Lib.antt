pub mod Multiples
pub mod Order
pub mod KeptByCuts
pub mod GrowingCuts
pub mod ExactCuts
pub mod KeptByResults
pub mod ResultRanges
pub mod GrowingResults
pub mod AllWidths
pub mod ElementOffsets
mod KeptRanges
pub mod BuiltRanges
