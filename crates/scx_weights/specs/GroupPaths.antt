-- The groups that a group lies in, as a list with a place for each level that a group may have.
use Rattle.std.specs.Prelude.{ℕ, List, [], ◌∷◌, Option, None, Some}
use Rattle.scx_weights.specs.declared.group.Group.{Group}
use Rattle.scx_weights.specs.Hierarchy.{parent_of}

-- those that are there, in their order
abbrev pub there : List (Option ℕ) → List ℕ
there [] = []
there (None ∷ gs) = there gs
there (Some g ∷ gs) = g ∷ there gs

-- the group that a group lies in; none where there is none
abbrev pub parent_if : List Group → Option ℕ → Option ℕ
parent_if groups None = None
parent_if groups (Some g) = parent_of groups g
