-- A list in which one element was written.
use Rattle.std.proofs.Common.{◌≡◌, ℕ, ◌<◌, ◌≤◌, ◌⊎◌, inl, inr, List, length, set, get_or}
use Rattle.std.proofs.lemmas.Bool.{cases_eq, cases_lt}
use Rattle.std.proofs.lemmas.List.{get_or-set_same, get_or-set_other, set_past}

-- what is so of each element, and of the one that is written, is so of each one after
pub each_written : {X : Type 0} (P : ℕ → X → Type 0) (xs : List X) (t : ℕ) (x none : X) → P t x → ((u : ℕ) → P u (get_or xs u none)) → (u : ℕ) → P u (get_or (set xs t x) u none)
each_written {X} P xs t x none new old u = go (cases_eq u t) (cases_lt t (length xs))
  where
    go : (u ≡ t) ⊎ (u ≡ t → ⊥) → (t < length xs) ⊎ (length xs ≤ t) → P u (get_or (set xs t x) u none)
    go (inl e) (inl within) = rw (e, get_or-set_same {A = X} xs t x none within) new
    go (inl e) (inr past) = rw (set_past xs t x past) (old u)
    go (inr d) l = rw (get_or-set_other {A = X} xs t u x none d) (old u)
