-- What is kept so that no usage passes its bound: with a group's usage the processors that run
-- its tasks are counted.
use Rattle.std.specs.Prelude.{ℕ, ◌+◌, ◌<◌, Bool, false, List, length, Option, None, Some}
use Rattle.std.specs.List.{count_by}
use Rattle.scx_weights.specs.Hierarchy.{Hierarchy, lies_in, home_of}
use Rattle.scx_weights.specs.Limits.{usage_of}

-- the task on a processor lies in the group
abbrev pub runs_in : Hierarchy → ℕ → Option ℕ → Bool
runs_in t g None = false
runs_in t g (Some k) = lies_in t.groups (home_of t k) g

-- how many processors run tasks of the group and those below it
abbrev pub cpus_in : Hierarchy → ℕ → List (Option ℕ) → ℕ
cpus_in t g cpus = count_by (runs_in t g) cpus

-- a group's usage and its running tasks together stay below the quota plus the number of processors
abbrev pub StaysBelowQuota : Hierarchy → List (Option ℕ) → ℕ → ℕ → Type 0
StaysBelowQuota t cpus g quota = usage_of t g + cpus_in t g cpus < quota + length cpus
