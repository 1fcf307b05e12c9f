-- The causes of the refusal of a part of a run.
use Rattle.std.specs.Prelude.{ℕ, List, Option, ◌⊎◌}
use Rattle.scxsim_commands.specs.declared.refusal.Refusal.{Refusal}
use Rattle.scxsim_commands.specs.declared.windows.Span.{Span}
use Rattle.scx_load_workloads.specs.Workload.{WorkloadState}
use Rattle.scxsim_commands.specs.Windows.{IsBadSpan}
use Rattle.scxsim_runs.specs.Runs.{AreRead, IsCause}

-- both texts are read, and the words name no part of the run
abbrev pub HasBadSpan : List ℕ → List ℕ → Option Span → Refusal → Type 0
HasBadSpan policy workload span r =
    (w : WorkloadState) × AreRead policy workload w × IsBadSpan w.ms span r

-- the texts are refused, or the words are
abbrev pub IsPartCause : List ℕ → List ℕ → Option Span → Refusal → Type 0
IsPartCause policy workload span r = IsCause policy workload r ⊎ HasBadSpan policy workload span r
