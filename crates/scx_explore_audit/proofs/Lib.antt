mod Skipping
mod Covered
mod TriedPaths
mod Numbered
mod Passing
mod Fitting
mod InARow
mod Settled
mod Matched
mod Wholly
mod Waitless
mod Respected
pub mod Rowed
mod Computed
mod NoOtherTasks
pub mod InRuns
