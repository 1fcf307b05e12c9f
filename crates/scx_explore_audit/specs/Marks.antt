-- Marks of states that need no look. No public clause cites it.
use Rattle.std.specs.Prelude.{◌≡◌, ℕ, Bool, true, false, List, slice_index_or}
use Rattle.scx_explore_audit.specs.Closed.{Claim, IsWithin, depth_at}

-- a list that leads to a state that is marked may have no more moves
abbrev pub ArePast : Claim → List Bool → Type 0
ArePast c marks =
    (k : ℕ) → slice_index_or marks k false ≡ true → IsWithin c.limit (depth_at c k) → ⊥
