pub mod Records
pub mod IdleRecords
pub mod Omitting
pub mod Leaving
mod Entering
pub mod IdleTasks
pub mod Worlds
pub mod Helpers
pub mod Runs
pub mod Answered
mod OwnTasks
pub mod WorldSizes
pub mod EventWalk
pub mod Paired
pub mod PairedSteps
pub mod PairedCycles
pub mod PairedEvents
pub mod EventSizes
pub mod SamePolicy
pub mod MachineCopies
pub mod ListMachines
pub mod Replaying
pub mod CommonBeginnings
pub mod PathFields
pub mod PoolCopies
pub mod Steps
mod Begun
pub mod Events
mod AnyRounds
pub mod LeftOut
pub mod Machines
pub mod OwnCalls
pub mod Words
pub mod Near
pub mod Loads
pub mod FifoQueues
pub mod First
pub mod Shown
pub mod SameQueues
pub mod SameWorlds
pub mod SameRuns
pub mod SameSteps
pub mod SameEvents
pub mod SameMachines
pub mod SameShown
pub mod OrderTold
pub mod PlacesTold
pub mod CpusTold
pub mod TasksTold
pub mod MapsTold
pub mod MapWalk
pub mod KeysTold
pub mod RunsTold
pub mod Between
pub mod RandomWalk
pub mod Tidying
pub mod DelayedTicks
pub mod RulesKept
pub mod DelayedTasks
pub mod LinuxTold
pub mod TicksTold
pub mod DelayedWorlds
pub mod DelayedHelpers
pub mod DelayedRuns
pub mod DelayedSteps
pub mod DelayedEvents
pub mod DelayedMachines
pub mod UnusedGroups
pub mod GivenSlices
pub mod Lent
pub mod SameTold
pub mod QueueWalk
pub mod Led
pub mod Clocks
pub mod Stalling
pub mod FirstLed
pub mod CountedRecords
mod CountedWorlds
pub mod CountedRuns
mod CountedSteps
mod CountedCycles
mod CountedEvents
mod CountedTicks
pub mod CountedMachines
pub mod CountedShown
mod Ending
mod Running
mod IdleCpus
