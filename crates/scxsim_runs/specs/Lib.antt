pub mod Runs
pub mod Refusals
pub mod Replays
pub mod Parts
pub mod Scenarios
pub mod ScenarioLaws
pub mod ScenarioParts
