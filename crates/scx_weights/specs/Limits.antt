-- Limits of processor time: `cpu.max` of Linux Documentation/admin-guide/cgroup-v2.rst, in whole
-- milliseconds. A group with a quota may use that much in each of its periods, which begin where
-- the clock is a multiple of their length. What its tasks use, and those below it, counts together.
use Rattle.std.specs.Prelude.{◌≡◌, ℕ, ◌+◌, ◌%◌, ◌<◌, Bool, false, ◌&&◌, ◌==◌, nat_le, List, length, map, slice_index, Option, None, Some, is_some, if◌then◌else◌}
use Rattle.std.specs.List.{list_any, range_with_len}
use Rattle.scx_weights.specs.declared.group.Group.{Group}
use Rattle.scx_weights.specs.Counting.{any_below}
use Rattle.scx_weights.specs.Hierarchy.{Hierarchy, quota_at, period_at, path, lies_in, home_of}

-- the processor time that the group has used in its period, in ms
abbrev pub usage_of : Hierarchy → ℕ → ℕ
usage_of t g = slice_index t.usages g

-- so much is all of the quota, or more
abbrev pub is_used_up : Option ℕ → ℕ → Bool
is_used_up None used = false
is_used_up (Some quota) used = nat_le quota used

-- the group has used all that it may
abbrev pub is_throttled_group : Hierarchy → ℕ → Bool
is_throttled_group t g = is_used_up (quota_at t.groups g) (usage_of t g)

-- a group has a quota
abbrev pub has_quota : List Group → Bool
has_quota groups = list_any (λ (group : Group). is_some group.quota_ms) groups

-- a task is throttled where its group is, or one that this lies below
abbrev pub is_throttled : Hierarchy → ℕ → Bool
is_throttled t k = list_any (λ g. is_throttled_group t g) (path t.groups (home_of t k))

-- a number for each group
abbrev pub for_each_group : Hierarchy → (ℕ → ℕ) → List ℕ
for_each_group t f = map f (range_with_len 0 (length t.groups))

-- the task ran for a millisecond
abbrev pub with_use : Hierarchy → ℕ → Hierarchy
with_use t k = record t {
  usages =
      for_each_group t (λ g. usage_of t g + (if lies_in t.groups (home_of t k) g then 1 else 0));
}

-- the task ran for that many milliseconds
abbrev pub with_uses : Hierarchy → ℕ → ℕ → Hierarchy
with_uses t k n = record t {
  usages =
      for_each_group t (λ g. usage_of t g + (if lies_in t.groups (home_of t k) g then n else 0));
}

-- a period of the group begins at that clock
abbrev pub begins_period : Hierarchy → ℕ → ℕ → Bool
begins_period t g clock = (clock % period_at t.groups g) == 0

-- the clock shows that time in ms, and periods begin
abbrev pub with_turn : Hierarchy → ℕ → Hierarchy
with_turn t clock = record t {
  usages = for_each_group t (λ g. if begins_period t g clock then 0 else usage_of t g);
}

-- no period begins later than the first clock and before the second
abbrev pub NoneBegins : Hierarchy → ℕ → ℕ → Type 0
NoneBegins t from to =
    (clock g : ℕ)
    → from < clock → clock < to → g < length t.groups → begins_period t g clock ≡ false

-- the group had used up its quota, and at that clock its next period begins
abbrev pub is_freed : Hierarchy → ℕ → ℕ → Bool
is_freed t clock g = is_throttled_group t g && begins_period t g clock

-- a group is freed at that clock
abbrev pub frees : Hierarchy → ℕ → Bool
frees t clock = any_below (length t.groups) (λ g. is_freed t clock g)
