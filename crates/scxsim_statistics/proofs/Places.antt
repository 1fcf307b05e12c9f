-- A place of a list is changed, by what stands there.
use Rattle.std.proofs.Common.{◌≡◌, ℕ, ◌<◌, Bool, true, false, cond, eqb, List, length, get_or, set, refl, ap, subst, ◌∙◌, ◌⊎◌, inl, inr}
use Rattle.std.proofs.lemmas.Bool.{cases_eq, eq-eqb, ne_eqb}
use Rattle.std.proofs.lemmas.List.{get_or-set_same, get_or-set_other, get_or_read, set-get_or}

-- a list stays as it is where what stands at a place is put there again
pub set_as_it_is : {X : Type 0} (xs : List X) (i : ℕ) (d : X) → set xs i (get_or xs i d) ≡ xs
set_as_it_is xs i d = set-get_or xs i d

-- whatever stands past the end in the reading
pub changed_where_read : {X : Type 0} (f : X → X) (xs : List X) (i : ℕ) (x d : X) → i < length xs → x ≡ get_or xs i x
    → set xs i (f x) ≡ set xs i (f (get_or xs i d))
changed_where_read f xs i x d within read = ap (λ y. set xs i (f y)) (get_or_read xs i x within read d)

-- one place and another
pub at_set : {X : Type 0} (xs : List X) (u t : ℕ) (y d : X) → t < length xs → get_or (set xs u y) t d ≡ cond (eqb t u) y (get_or xs t d)
at_set {X} xs u t y d within = go (cases_eq t u)
  where
    go : (t ≡ u) ⊎ (t ≡ u → ⊥) → get_or (set xs u y) t d ≡ cond (eqb t u) y (get_or xs t d)
    go (inl e) = rw (eq-eqb t u e) (rw e (get_or-set_same xs u y d (subst (λ k. k < length xs) e within)))
    go (inr other) = rw (ne_eqb t u other) (get_or-set_other xs u t y d other)

-- by what stands there, and by the place
pub at_changed_by : {X : Type 0} (f : ℕ → X → X) (xs : List X) (u t : ℕ) (d : X) → t < length xs
    → get_or (set xs u (f u (get_or xs u d))) t d ≡ cond (eqb t u) (f t (get_or xs t d)) (get_or xs t d)
at_changed_by {X} f xs u t d within = go (cases_eq t u)
  where
    go : (t ≡ u) ⊎ (t ≡ u → ⊥) → get_or (set xs u (f u (get_or xs u d))) t d ≡ cond (eqb t u) (f t (get_or xs t d)) (get_or xs t d)
    go (inl e) = rw (eq-eqb t u e) (rw e (get_or-set_same xs u (f u (get_or xs u d)) d (subst (λ k. k < length xs) e within)))
    go (inr other) = rw (ne_eqb t u other) (get_or-set_other xs u t (f u (get_or xs u d)) d other)

-- one place is changed, by what stood there, and every other is as it was
pub at_changed : {X : Type 0} (f : X → X) (xs : List X) (u t : ℕ) (d : X) → t < length xs
    → get_or (set xs u (f (get_or xs u d))) t d ≡ cond (eqb t u) (f (get_or xs t d)) (get_or xs t d)
at_changed f xs u t d within = at_changed_by (λ k x. f x) xs u t d within

-- a part of what stands there that the change leaves
pub part_stays : {X Y : Type 0} (part : X → Y) (f : X → X) (xs : List X) (u t : ℕ) (d : X) → ((x : X) → part (f x) ≡ part x) → t < length xs
    → part (get_or (set xs u (f (get_or xs u d))) t d) ≡ part (get_or xs t d)
part_stays part f xs u t d stays within = ap part (at_changed f xs u t d within) ∙ go (eqb t u)
  where
    go : (b : Bool) → part (cond b (f (get_or xs t d)) (get_or xs t d)) ≡ part (get_or xs t d)
    go true = stays (get_or xs t d)
    go false = refl
