-- The rest of a list from an element on.
use Rattle.std.proofs.Common.{◌≡◌, ℕ, zero, suc, ◌+◌, ◌<◌, ◌≤◌, List, [], ◌∷◌, length, drop, slice_index_or, refl, subst, arith}

rest_at : {A : Type 0} (xs : List A) (n : ℕ) (d : A) → n < length xs → drop n xs ≡ slice_index_or xs n d ∷ drop (suc n) xs
rest_at [] n d l = absurd (omega (arith, l))
rest_at (x ∷ xs) zero d l = refl
rest_at (x ∷ xs) (suc n) d l = rest_at xs n d (omega (arith, l))

-- it begins with that element
pub rest_from : {A : Type 0} (xs : List A) (n : ℕ) (d : A) → n < length xs → drop n xs ≡ slice_index_or xs n d ∷ drop (n + 1) xs
rest_from {A} xs n d l =
    let next : suc n ≡ n + 1 = omega arith in
    subst (λ (k : ℕ). drop n xs ≡ slice_index_or xs n d ∷ drop k xs) next (rest_at xs n d l)

-- and is none past the end
pub no_rest : {A : Type 0} (xs : List A) (n : ℕ) → length xs ≤ n → drop n xs ≡ []
no_rest [] zero l = refl
no_rest [] (suc n) l = refl
no_rest (x ∷ xs) zero l = absurd (omega (arith, l))
no_rest (x ∷ xs) (suc n) l = no_rest xs n (omega (arith, l))
