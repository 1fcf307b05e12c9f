-- Changes of weights in the order of their times, and the next one of them.
use Rattle.std.specs.Prelude.{◌≡◌, ℕ, ◌≤◌, ◌<◌, List, length}
use Rattle.std.specs.List.Sorted.{IsNonDecreasingBy}
use Rattle.scx_load_workloads.specs.declared.workload.Change.{Change}
use Rattle.scx_load_workloads.specs.Workload.{change_at}
use Rattle.scx_load_driver.specs.Blocks.{changes_at}

-- no change is due before one that it follows
abbrev pub AreOrdered : List Change → Type 0
AreOrdered changes = IsNonDecreasingBy (λ (c : Change). c.at) changes

-- in each millisecond both lists change the same weights, in the same order
abbrev pub AreAlike : List Change → List Change → Type 0
AreAlike these those = (m : ℕ) → changes_at these m ≡ changes_at those m

-- each change that is due from the first millisecond on is due from the second on
abbrev pub AreLater : List Change → ℕ → ℕ → Type 0
AreLater changes from next =
    (i : ℕ) → i < length changes → from ≤ (change_at changes i).at → next ≤ (change_at changes i).at

-- the index is that of the first change that isn't past at the first millisecond; no change from
-- it on is due before the second, which isn't earlier
pub record IsComing (changes : List Change) (from coming next : ℕ) : Type 0 where
  pub within : coming ≤ length changes
  pub past : (i : ℕ) → i < coming → (change_at changes i).at < from
  pub later : (i : ℕ) → coming ≤ i → i < length changes → next ≤ (change_at changes i).at
  pub ahead : from ≤ next
