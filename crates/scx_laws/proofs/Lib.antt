pub mod Differing
pub mod BindingTasks
pub mod PickingIdle
pub mod Ejecting
pub mod Readers
pub mod Alarms
pub mod Entering
pub mod Helping
pub mod Calling
pub mod Departing
pub mod Ringing
pub mod Cycling
pub mod Rounding
pub mod Waiting
pub mod Refusing
pub mod Happening
pub mod Homing
pub mod Starting
mod Sums
mod Sound
mod Adding
pub mod Moving
mod Known
mod Saying
mod Plain
mod Emptying
mod Finding
mod Leaving
mod Lining
mod Walking
mod Choosing
mod InLine
mod Beginning
mod Keeping
mod Overtaking
mod Faultless
mod Counting
mod Bounding
mod Turning
mod Cycled
mod Waited
mod Parked
mod Releasing
mod LettingGo
mod Throttled
mod Noted
mod NotedCalls
mod NotedPuts
mod NotedDispatch
mod NotedCycles
mod NotedWakes
mod NotedSleeps
mod NotedTicks
mod NotedEvents
mod NotedRuns
