-- Laws of scenarios: a text without a key `events` is a workload, and one with it a file of events.
use Rattle.std.specs.Prelude.{◌≡◌, ℕ, true, false, List, ◌↔◌}
use Rattle.scx_sched.specs.Sim.{SimState}
use Rattle.scx_load_workloads.specs.Workload.{WorkloadState}
use Rattle.scx_load_replay.specs.Replay.{ReplayState}
use Rattle.scx_load_replay.specs.declared.scenario.Scenario.{Scenario}
use Rattle.scx_load_replay.specs.declared.scenario.Scenario.TheVariants as scenario
use Rattle.scx_load_replay.specs.Reading.{has_events}
use Rattle.scxsim_commands.specs.declared.refusal.Refusal.{Refusal}
use Rattle.scxsim_runs.specs.Runs.{IsRun, IsCause}
use Rattle.scxsim_runs.specs.Replays.{IsReplayRun, IsReplayCause}
use Rattle.scxsim_runs.specs.Scenarios.{IsScenarioRun, IsScenarioCause}

-- without a key `events` the scenario is a workload, its runs are those of the workload, and it is
-- refused for what the workload is refused for
pub record IsAsWorkload (policy text : List ℕ) : Type 0 where
  pub runs : (w : WorkloadState) (s : SimState)
      → IsScenarioRun policy text (scenario.Workload w) s ↔ IsRun policy text w s
  pub only : (x : Scenario) (s : SimState) → IsScenarioRun policy text x s
      → (w : WorkloadState) × (x ≡ scenario.Workload w)
  pub refusals : (r : Refusal) → IsScenarioCause policy text r → IsCause policy text r

-- with a key `events` it is a file of events, its runs are those of that file, and it is refused
-- for what that file is refused for
pub record IsAsFileOfEvents (policy text : List ℕ) : Type 0 where
  pub runs : (e : ReplayState) (s : SimState)
      → IsScenarioRun policy text (scenario.Events e) s ↔ IsReplayRun policy text e s
  pub only : (x : Scenario) (s : SimState) → IsScenarioRun policy text x s
      → (e : ReplayState) × (x ≡ scenario.Events e)
  pub refusals : (r : Refusal) → IsScenarioCause policy text r → IsReplayCause policy text r

-- of every policy and every text without a key `events`
abbrev pub TextsWithoutEventsAreWorkloads : Type 0
TextsWithoutEventsAreWorkloads =
    (policy text : List ℕ) → has_events text ≡ false → IsAsWorkload policy text

-- of every policy and every text with a key `events`
abbrev pub TextsWithEventsAreFilesOfEvents : Type 0
TextsWithEventsAreFilesOfEvents =
    (policy text : List ℕ) → has_events text ≡ true → IsAsFileOfEvents policy text
