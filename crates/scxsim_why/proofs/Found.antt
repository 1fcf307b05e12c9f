-- The last callback in the run of two texts.
use Rattle.std.proofs.Common.{ℕ, List, Option, Some, None}
use Rattle.std.specs.Prelude.{IfSome}
use Rattle.scx_sched.specs.Sim.{SimState}
use Rattle.scx_load_replay.specs.declared.scenario.Scenario.{Scenario}
use Rattle.scx_load_replay.specs.Scenarios.{scenario_events}
use Rattle.scxsim_runs.specs.Scenarios.{IsScenarioRun}
use Rattle.scxsim_account.specs.declared.call_end.CallEnd.{CallEnd}
use Rattle.scxsim_account.specs.LastCalls.{IsLastBeforeEjection}
use Rattle.scxsim_why.specs.Findings.{IsLastOfTexts}

-- in the run of two texts
pub last_of_texts : (policy scenario : List ℕ) (of_scenario : Scenario) (s : SimState) (x : Option CallEnd) → IsScenarioRun policy scenario of_scenario s
    → IfSome x (IsLastBeforeEjection s (scenario_events of_scenario s)) → IfSome x (IsLastOfTexts policy scenario)
last_of_texts policy scenario of_scenario s None run last = tt
last_of_texts policy scenario of_scenario s (Some end) run last = record { of_scenario = of_scenario; first = s; run = run; last = last }
