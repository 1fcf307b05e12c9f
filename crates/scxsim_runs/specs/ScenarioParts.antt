-- Why a part of the run of a scenario is refused.
use Rattle.std.specs.Prelude.{◌⊎◌, ℕ, List, Option}
use Rattle.scx_load_replay.specs.declared.scenario.Scenario.{Scenario}
use Rattle.scx_load_replay.specs.Scenarios.{workload_of}
use Rattle.scxsim_commands.specs.declared.refusal.Refusal.{Refusal}
use Rattle.scxsim_commands.specs.declared.windows.Span.{Span}
use Rattle.scxsim_commands.specs.Windows.{IsBadSpan}
use Rattle.scxsim_runs.specs.Scenarios.{IsScenarioRead, IsScenarioCause}

-- both texts are read, and the words name no part of the run
abbrev pub HasBadSpanOf : List ℕ → List ℕ → Option Span → Refusal → Type 0
HasBadSpanOf policy scenario span r =
    (x : Scenario) × IsScenarioRead policy scenario x × IsBadSpan (workload_of x).ms span r

-- the texts are refused, or the words are
abbrev pub IsScenarioPartCause : List ℕ → List ℕ → Option Span → Refusal → Type 0
IsScenarioPartCause policy scenario span r =
    IsScenarioCause policy scenario r ⊎ HasBadSpanOf policy scenario span r
