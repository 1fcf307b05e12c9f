-- The idle CPUs while tasks wait, and the last callback, in the run of two texts.
use Rattle.std.specs.Prelude.{ℕ, ◌≡◌, List}
use Rattle.scx_sched.specs.Sim.{SimState}
use Rattle.scx_load_replay.specs.declared.scenario.Scenario.{Scenario}
use Rattle.scx_load_replay.specs.Scenarios.{scenario_events}
use Rattle.scxsim_runs.specs.Scenarios.{IsScenarioRun}
use Rattle.scxsim_account.specs.declared.idling.IdleFigures.{IdleFigures}
use Rattle.scxsim_account.specs.declared.call_end.CallEnd.{CallEnd}
use Rattle.scxsim_account.specs.Idling.{idle_of, figures_of}
use Rattle.scxsim_account.specs.LastCalls.{IsLastBeforeEjection}

-- the idle figures of the run of the two texts; the second is a workload or a file of events
pub record IsIdleOfTexts (policy scenario : List ℕ) (x : IdleFigures) : Type 0 where
  pub of_scenario : Scenario
  pub first : SimState
  pub run : IsScenarioRun policy scenario of_scenario first
  pub of_run : x ≡ figures_of (idle_of first (scenario_events of_scenario first))

-- in the run of the two texts the last callback before the policy's ejection ends so
pub record IsLastOfTexts (policy scenario : List ℕ) (end : CallEnd) : Type 0 where
  pub of_scenario : Scenario
  pub first : SimState
  pub run : IsScenarioRun policy scenario of_scenario first
  pub last : IsLastBeforeEjection first (scenario_events of_scenario first) end
