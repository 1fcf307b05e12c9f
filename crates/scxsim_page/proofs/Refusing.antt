-- Of a run of which no page is made.
use Rattle.std.proofs.Common.{◌≡◌, ℕ, List, Option, is_some, Result, Ok, Err, IfErr, ◌⊎◌, inl, inr}
use Rattle.scx_load_replay.specs.declared.scenario.Scenario.{Scenario}
use Rattle.scx_load_replay.specs.Scenarios.{workload_of}
use Rattle.scx_sched.specs.Sim.{SimState}
use Rattle.scxsim_commands.specs.declared.refusal.Refusal.{Refusal}
use Rattle.scxsim_commands.specs.declared.refusal.Refusal.TheVariants.{NoMemory}
use Rattle.scxsim_runs.specs.Scenarios.{IsScenarioRun}
use Rattle.scxsim_runs.proofs.PartCauses as causes
use Rattle.scxsim_commands.specs.declared.windows.Window.{Window}
use Rattle.scxsim_commands.specs.Windows.{IsWindow}
use Rattle.scxsim_commands.specs.declared.windows.Span.{Span}
use Rattle.scxsim_page.specs.Pages.{IsPastPart, IsPageCause}

-- memory ran out
pub out_of_memory : (policy scenario : List ℕ) (span : Option Span) (r : Refusal) → r ≡ NoMemory → IsPageCause policy scenario span r
out_of_memory policy scenario span r e = inl (causes.out_of_memory_of_scenario policy scenario span r e)

-- the run is that of the texts and the window that of the words, and memory ran out, or the window is a part with too many stretches
pub too_many_of : (policy scenario : List ℕ) (x : Scenario) (s : SimState) (span : Option Span) (window : Window) (r : Refusal) → IsScenarioRun policy scenario x s → IsWindow (workload_of x).ms span window → (r ≡ NoMemory) ⊎ IsPastPart (is_some span) window x s r → IsPageCause policy scenario span r
too_many_of policy scenario x s span window r run is (inl e) = out_of_memory policy scenario span r e
too_many_of policy scenario x s span window r run is (inr past) = inr (x, s, run, (window, is, past))

-- a run of texts whose part is refused
pub none_of : {A : Type 0} (made : Result A Refusal) (policy scenario : List ℕ) (x : Scenario) (s : SimState) (span : Option Span) (window : Window) → IsScenarioRun policy scenario x s → IsWindow (workload_of x).ms span window
    → IfErr made (λ r. (r ≡ NoMemory) ⊎ IsPastPart (is_some span) window x s r) → IfErr made (IsPageCause policy scenario span)
none_of (Ok made) policy scenario x s span window run is why = tt
none_of (Err r) policy scenario x s span window run is why = too_many_of policy scenario x s span window r run is why
