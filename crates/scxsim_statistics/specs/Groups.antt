-- The waits and wake-to-run latencies of a group: those of its tasks and of the tasks of groups
-- below it.
use Rattle.std.specs.Prelude.{ℕ, zero, suc, ◌==◌, Bool, false, List, [], ◌∷◌, ◌++◌, length, Option, Some, None, slice_get, slice_index_or}
use Rattle.scx_weights.specs.declared.group.Group.{Group}
use Rattle.scx_weights.specs.Hierarchy.{lies_in}
use Rattle.scx_load_workloads.specs.Workload.{WorkloadState}
use Rattle.scxsim_views.specs.Lengths.{Lengths, no_lengths, merged_if}
use Rattle.scxsim_statistics.specs.Latencies.{latencies_at}
use Rattle.scxsim_statistics.specs.Counting.{figures_at}
use Rattle.scxsim_statistics.specs.declared.latencies.LatencyFigures.{LatencyFigures}
use Rattle.scxsim_statistics.specs.declared.tally.TaskFigures.{TaskFigures}
use Rattle.scxsim_statistics.specs.declared.group_waits.GroupWaits.{GroupWaits}

-- there is a group, and it has that number
abbrev pub is_level : ℕ → Option ℕ → Bool
is_level g None = false
is_level g (Some x) = x == g

-- there is a group, and it is that one or lies below it
abbrev pub is_within : List Group → ℕ → Option ℕ → Bool
is_within groups g None = false
is_within groups g (Some home) = lies_in groups home g

-- the task of that number is there, and its group is this one or lies below it
abbrev pub is_in : WorkloadState → ℕ → ℕ → Bool
is_in w g t = is_within w.groups g (slice_get w.homes t)

-- what is counted for the numbers below that one that pass a test
abbrev pub merged_below : (ℕ → Bool) → (ℕ → Lengths) → ℕ → Lengths
merged_below test counted zero = no_lengths
merged_below test counted (suc n) =
    merged_if (test n) (counted n) (merged_below test counted n)

-- the waits of all tasks of a group
abbrev pub group_waits : WorkloadState → ℕ → List TaskFigures → Lengths
group_waits w g tasks =
    merged_below (is_in w g) (λ t. (figures_at tasks t).waits) (length tasks)

-- the latencies of all tasks of a group
abbrev pub group_latencies : WorkloadState → ℕ → List LatencyFigures → Lengths
group_latencies w g xs = merged_below (is_in w g) (λ t. (latencies_at xs t).lengths) (length xs)

-- both of the group of that number
abbrev pub waits_in : WorkloadState → List TaskFigures → List LatencyFigures → ℕ → GroupWaits
waits_in w tasks xs g = record {
  waits = group_waits w g tasks;
  latencies = group_latencies w g xs;
}

-- both of the groups of the numbers below that one
abbrev pub waits_below :
    WorkloadState → List TaskFigures → List LatencyFigures → ℕ → List GroupWaits
waits_below w tasks xs zero = []
waits_below w tasks xs (suc n) = waits_below w tasks xs n ++ waits_in w tasks xs n ∷ []

-- both of the group of that number; nothing where there is none
abbrev pub waits_at : List GroupWaits → ℕ → GroupWaits
waits_at xs g = slice_index_or xs g (record { waits = no_lengths; latencies = no_lengths })
