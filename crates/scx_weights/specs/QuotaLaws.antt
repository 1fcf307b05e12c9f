-- The laws of limits, which are the contracts of public functions without bodies of their own.
use Rattle.std.specs.Prelude.{ℕ, ◌≡◌, ◌<◌, ◌+◌, true, false, List, length, Some}
use Rattle.scx_weights.specs.Hierarchy.{Hierarchy, quota_at}
use Rattle.scx_weights.specs.Limits.{usage_of, is_throttled_group, is_throttled, with_use, with_turn, begins_period}
use Rattle.scx_weights.specs.Uses.{Use, after, runs_in_period}
use Rattle.scx_weights.specs.Machine.{Step, idle_machine, run_of, are_allowed, uses_of}

-- a usage that was 0 counts the ms that tasks of the group, or below it, ran since its period began
abbrev pub UsagesCountRuns : Type 0
UsagesCountRuns =
    (t : Hierarchy) (g : ℕ) (past : List Use) → g < length t.groups → usage_of t g ≡ 0
    → usage_of (after t past) g ≡ runs_in_period t g past

-- a usage that was 0 stays below the group's quota plus the number of processors, idle at first
abbrev pub UsagesAreBounded : Type 0
UsagesAreBounded =
    (t : Hierarchy) (cpus : ℕ) (past : List Step) (g quota : ℕ)
    → g < length t.groups → quota_at t.groups g ≡ Some quota → 0 < quota → usage_of t g ≡ 0
    → are_allowed (idle_machine t cpus) past ≡ true
    → usage_of (run_of (idle_machine t cpus) past).tree g < quota + cpus

-- what a group's tasks, and those below, run in a period stays below its quota plus the processors
abbrev pub RunsAreBounded : Type 0
RunsAreBounded =
    (t : Hierarchy) (cpus : ℕ) (past : List Step) (g quota : ℕ)
    → g < length t.groups → quota_at t.groups g ≡ Some quota → 0 < quota → usage_of t g ≡ 0
    → are_allowed (idle_machine t cpus) past ≡ true
    → runs_in_period t g (uses_of (idle_machine t cpus) past) < quota + cpus

-- a throttled task stays so, whoever runs for a ms
abbrev pub UsesKeepThrottled : Type 0
UsesKeepThrottled =
    (t : Hierarchy) (k j : ℕ) → is_throttled t k ≡ true → is_throttled (with_use t j) k ≡ true

-- where no period of a throttled group begins
abbrev pub ClocksKeepThrottled : Type 0
ClocksKeepThrottled =
    (t : Hierarchy) (k clock : ℕ)
    → ((g : ℕ) → is_throttled_group t g ≡ true → begins_period t g clock ≡ false)
    → is_throttled t k ≡ true → is_throttled (with_turn t clock) k ≡ true

-- a task that isn't throttled stays so, whatever the clock comes to show
abbrev pub ClocksThrottleNobody : Type 0
ClocksThrottleNobody =
    (t : Hierarchy) (k clock : ℕ)
    → is_throttled t k ≡ false → is_throttled (with_turn t clock) k ≡ false
