-- What groups have used, as it is kept: for each group what was added up so far, and what its own
-- tasks used since then. That is pending: it counts for the group and for all that it lies below.
use Rattle.std.specs.Prelude.{ℕ, ◌+◌, ◌%◌, ◌^◌, ◌<◌, ◌≤◌, ◌≡◌, ◌&&◌, ◌==◌, Bool, true, List, length, map, slice_index, if◌then◌else◌}
use Rattle.std.specs.List.{range_with_len}
use Rattle.scx_weights.specs.declared.group.Group.{Group}
use Rattle.scx_weights.specs.Counting.{sum_below, any_below}
use Rattle.scx_weights.specs.Hierarchy.{quota_at, period_at, lies_in}
use Rattle.scx_weights.specs.Limits.{is_used_up}

-- what is pending of the second group, where it counts for the first
abbrev pub pending_for : List Group → List ℕ → ℕ → ℕ → ℕ
pending_for groups pending g h = if lies_in groups h g then slice_index pending h else 0

-- what a group has used: what was added up, and what is pending of all that it holds
abbrev pub usage_in : List Group → List ℕ → List ℕ → ℕ → ℕ
usage_in groups used pending g =
    slice_index used g + sum_below (length groups) (λ h. pending_for groups pending g h)

-- what each group has used
unfoldable pub usages_in : List Group → List ℕ → List ℕ → List ℕ
usages_in groups used pending =
    map (usage_in groups used pending) (range_with_len 0 (length groups))

-- two numbers for each group, nothing pending where a group has a quota, and no group that has used
-- too much to be counted on
pub record AreUsages (groups : List Group) (used pending : List ℕ) (limited : Bool) : Type 0 where
  pub used_length : length used ≡ length groups
  pub pending_length : length pending ≡ length groups
  pub settled : limited ≡ true → (g : ℕ) → g < length groups → slice_index pending g ≡ 0
  pub room : (g : ℕ) → g < length groups → slice_index (usages_in groups used pending) g ≤ 2 ^ 63

-- the second usages are the first ones, but 0 for each group whose period begins at that clock
abbrev pub AreTurned : List Group → ℕ → List ℕ → List ℕ → Type 0
AreTurned groups clock old new =
    (g : ℕ) → g < length groups
    → slice_index new g
    ≡ (if (clock % period_at groups g) == 0 then 0 else slice_index old g)

-- with these usages the group has used up its quota, and at that clock its next period begins
abbrev pub is_freed_in : List Group → List ℕ → ℕ → ℕ → Bool
is_freed_in groups usages clock g =
    is_used_up (quota_at groups g) (slice_index usages g)
    && ((clock % period_at groups g) == 0)

-- with these usages a group is freed at that clock
abbrev pub frees_in : List Group → List ℕ → ℕ → Bool
frees_in groups usages clock =
    any_below (length groups) (λ g. is_freed_in groups usages clock g)
