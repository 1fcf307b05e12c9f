-- What happens to the usages of groups, the latest first.
use Rattle.std.specs.Prelude.{ℕ, Bool, true, false, not, List, [], ◌∷◌}
use Rattle.std.specs.List.{count_by, take_while}
use Rattle.scx_weights.specs.Hierarchy.{Hierarchy, lies_in, home_of}
use Rattle.scx_weights.specs.Limits.{with_use, with_turn, begins_period}

-- what happens to usages: a task runs for a ms, or the clock turns
pub data Use : Type 0 where
  Ran : ℕ → Use  -- that task ran for a ms
  Turned : ℕ → Use  -- the clock came to show that time in ms

-- the tree after all that
abbrev pub after : Hierarchy → List Use → Hierarchy
after t [] = t
after t (Ran k ∷ past) = with_use (after t past) k
after t (Turned clock ∷ past) = with_turn (after t past) clock

-- a task of the group ran, or one of a group below it
abbrev pub is_run_in : Hierarchy → ℕ → Use → Bool
is_run_in t g (Ran k) = lies_in t.groups (home_of t k) g
is_run_in t g (Turned clock) = false

-- no period of the group began
abbrev pub is_within_period : Hierarchy → ℕ → Use → Bool
is_within_period t g (Ran k) = true
is_within_period t g (Turned clock) = not (begins_period t g clock)

-- how many ms the tasks of the group and those below it have run since its period began
abbrev pub runs_in_period : Hierarchy → ℕ → List Use → ℕ
runs_in_period t g past = count_by (is_run_in t g) (take_while (is_within_period t g) past)
