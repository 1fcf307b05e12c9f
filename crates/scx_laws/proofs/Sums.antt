-- A sum over two lists that differ at one place.
use Rattle.std.proofs.Common.{◌≡◌, ℕ, zero, suc, ◌+◌, ◌<◌, List, [], ◌∷◌, length, get_or, sum_by, refl, arith}
use Rattle.std.proofs.lemmas.List.Sums.{sum_by-cons}

-- over two lists with the same numbers
pub sum_same : {A : Type 0} (f : A → ℕ) (d : A) (xs ys : List A) → length ys ≡ length xs → ((u : ℕ) → f (get_or ys u d) ≡ f (get_or xs u d)) → sum_by f ys ≡ sum_by f xs
sum_same f d [] [] many h = refl
sum_same f d [] (y ∷ ys) many h = absurd (omega (arith, many))
sum_same f d (x ∷ xs) [] many h = absurd (omega (arith, many))
sum_same f d (x ∷ xs) (y ∷ ys) many h = omega (arith, sum_by-cons f x xs, sum_by-cons f y ys, h 0, sum_same f d xs ys (omega (arith, many)) (λ u. h (suc u)))

-- over two lists of which the second has that much more at one place
pub sum_more : {A : Type 0} (f : A → ℕ) (d : A) (more k : ℕ) (xs ys : List A) → length ys ≡ length xs → k < length xs → f (get_or ys k d) ≡ f (get_or xs k d) + more → ((u : ℕ) → (u ≡ k → ⊥) → f (get_or ys u d) ≡ f (get_or xs u d)) → sum_by f ys ≡ sum_by f xs + more
sum_more f d more k [] ys many l here others = absurd (omega (arith, l))
sum_more f d more k (x ∷ xs) [] many l here others = absurd (omega (arith, many))
sum_more f d more zero (x ∷ xs) (y ∷ ys) many l here others =
    omega (arith, sum_by-cons f x xs, sum_by-cons f y ys, here, sum_same f d xs ys (omega (arith, many)) (λ u. others (suc u) (λ e. omega (arith, e))))
sum_more f d more (suc k) (x ∷ xs) (y ∷ ys) many l here others =
    omega (arith, sum_by-cons f x xs, sum_by-cons f y ys, others 0 (λ e. omega (arith, e)), sum_more f d more k xs ys (omega (arith, many)) (omega (arith, l)) here (λ u apart. others (suc u) (λ e. apart (omega (arith, e)))))

-- over a list without any
pub sum_none : {A : Type 0} (f : A → ℕ) (d : A) (xs : List A) → ((u : ℕ) → f (get_or xs u d) ≡ 0) → sum_by f xs ≡ 0
sum_none f d [] h = refl
sum_none f d (x ∷ xs) h = omega (arith, sum_by-cons f x xs, h 0, sum_none f d xs (λ u. h (suc u)))
