-- Why a part of a run is refused.
use Rattle.std.proofs.Common.{◌≡◌, ℕ, List, Option, inl, inr, subst, sym}
use Rattle.scx_load_workloads.specs.Workload.{WorkloadState}
use Rattle.scx_sched.specs.Sim.{SimState}
use Rattle.scxsim_commands.specs.declared.refusal.Refusal.{Refusal}
use Rattle.scxsim_commands.specs.declared.refusal.Refusal.TheVariants.{NoMemory}
use Rattle.scxsim_commands.specs.declared.windows.Span.{Span}
use Rattle.scxsim_commands.specs.Windows.{IsBadSpan}
use Rattle.scxsim_runs.specs.Runs.{IsRun, AreRead, IsCause}
use Rattle.scxsim_runs.specs.Parts.{IsPartCause}
use Rattle.scx_load_replay.specs.declared.scenario.Scenario.{Scenario}
use Rattle.scx_load_replay.specs.Scenarios.{workload_of}
use Rattle.scxsim_runs.specs.Scenarios.{IsScenarioRun, IsScenarioRead, IsScenarioCause}
use Rattle.scxsim_runs.specs.ScenarioParts.{IsScenarioPartCause}

-- the texts of a run are read
pub are_read : (policy workload : List ℕ) (w : WorkloadState) (s : SimState) → IsRun policy workload w s → AreRead policy workload w
are_read policy workload w s x = record { file = x.begun.file; policy_read = x.begun.policy_read; workload_read = x.workload_read }

-- the run is that of the texts, and the words name no part of it
pub bad_span : (policy workload : List ℕ) (w : WorkloadState) (s : SimState) (span : Option Span) (r : Refusal) → IsRun policy workload w s → IsBadSpan w.ms span r → IsPartCause policy workload span r
bad_span policy workload w s span r x bad = inr (w, are_read policy workload w s x, bad)

-- memory ran out
pub out_of_memory : (policy workload : List ℕ) (span : Option Span) (r : Refusal) → r ≡ NoMemory → IsPartCause policy workload span r
out_of_memory policy workload span r e = inl (subst (λ q. IsCause policy workload q) (sym e) tt)

-- ---- of a scenario

pub scenario_is_read : (policy scenario : List ℕ) (x : Scenario) (s : SimState) → IsScenarioRun policy scenario x s → IsScenarioRead policy scenario x
scenario_is_read policy scenario x s run = record { file = run.begun.file; policy_read = run.begun.policy_read; scenario_read = run.scenario_read }

-- the run is that of the texts, and the words name no part of it
pub bad_span_of_scenario : (policy scenario : List ℕ) (x : Scenario) (s : SimState) (span : Option Span) (r : Refusal) → IsScenarioRun policy scenario x s → IsBadSpan (workload_of x).ms span r → IsScenarioPartCause policy scenario span r
bad_span_of_scenario policy scenario x s span r run bad = inr (x, scenario_is_read policy scenario x s run, bad)

-- memory ran out
pub out_of_memory_of_scenario : (policy scenario : List ℕ) (span : Option Span) (r : Refusal) → r ≡ NoMemory → IsScenarioPartCause policy scenario span r
out_of_memory_of_scenario policy scenario span r e = inl (subst (λ q. IsScenarioCause policy scenario q) (sym e) tt)
