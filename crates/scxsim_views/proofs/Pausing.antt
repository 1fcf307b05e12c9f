-- A task's state is written as it is.
use Rattle.std.proofs.Common.{◌≡◌, ℕ, List, get_or, set}
use Rattle.std.proofs.lemmas.List.{set-get_or}

-- a list is the same once an item was set to what it is
pub set_as_it_is : {X : Type 0} (xs : List X) (i : ℕ) (d : X) → set xs i (get_or xs i d) ≡ xs
set_as_it_is xs i d = set-get_or xs i d
