-- How far usages go: with the processors that run tasks of a group with a quota, its usage stays
-- below the quota plus the number of processors.
use Rattle.std.specs.Prelude.{◌≡◌, ℕ, ◌+◌, ◌<◌, List, length, Option, Some}
use Rattle.scx_weights.specs.Hierarchy.{Hierarchy, quota_at}
use Rattle.scx_weights.specs.Limits.{usage_of}
use Rattle.scx_weights.specs.Bounds.{StaysBelowQuota}
use Rattle.scx_sched_world.specs.World.{WorldState}

-- of each group
abbrev pub AreWithin : Hierarchy → List (Option ℕ) → Type 0
AreWithin t cpus =
    (g quota : ℕ)
    → g < length t.groups → quota_at t.groups g ≡ Some quota → StaysBelowQuota t cpus g quota

-- each usage is below its quota plus the number of processors
abbrev pub AreBounded : WorldState → Type 0
AreBounded w =
    (g quota : ℕ)
    → quota_at w.tree.groups g ≡ Some quota → usage_of w.tree g < quota + length w.cpus
