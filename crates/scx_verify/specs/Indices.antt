-- Storage of the states for slots ahead: for each slot the index of its state, if it has one.
-- No two slots have the same, and the free ones are no slot's. No public clause cites it.
use Rattle.std.specs.Prelude.{ℕ, ◌≡◌, ◌<◌, ◌⊎◌, List, [], ◌∷◌, ◌++◌, length, map, set, slice_get, slice_index_or, Option, Some, None}
use Rattle.scx_abs.specs.declared.states.AbsState.{AbsState}

-- the index that a slot has, if it has one
abbrev pub index_at : List (Option ℕ) → ℕ → Option ℕ
index_at indices t = slice_index_or indices t None

-- the state of an index, if there is one
abbrev pub state_of : List AbsState → Option ℕ → Option AbsState
state_of states None = None
state_of states (Some i) = slice_get states i

-- what is known of each slot
abbrev pub known_of : List (Option ℕ) → List AbsState → List (Option AbsState)
known_of indices states = map (λ o. state_of states o) indices

-- of that many states each is for one slot at most, and the free ones for none
pub record IsApart (indices : List (Option ℕ)) (free : List ℕ) (count : ℕ) : Type 0 where
  pub within : (t i : ℕ) → index_at indices t ≡ Some i → i < count
  pub once : (s t i : ℕ) → index_at indices s ≡ Some i → index_at indices t ≡ Some i → s ≡ t
  pub free_within : (j i : ℕ) → slice_get free j ≡ Some i → i < count
  pub free_once : (j k i : ℕ) → slice_get free j ≡ Some i → slice_get free k ≡ Some i → j ≡ k
  pub free_apart : (j t i : ℕ) → slice_get free j ≡ Some i → index_at indices t ≡ Some i → ⊥

-- a state was kept at a free index, or after the others
abbrev pub IsPlacedAt : List AbsState → List ℕ → ℕ → AbsState → List AbsState → List ℕ → Type 0
IsPlacedAt states free i a after left =
    ((free ≡ left ++ i ∷ []) × (after ≡ set states i a))
    ⊎ ((left ≡ free) × (i ≡ length states) × (after ≡ states ++ a ∷ []))
