-- The first element that passes.
use Rattle.std.proofs.Common.{◌≡◌, ◌≢◌, ℕ, ◌<◌, Bool, true, false, List, [], ◌∷◌, length, get_or, position, Some, None, refl, arith}
use Rattle.std.proofs.lemmas.Bool.{lt-ltb, le-ltb}
use Rattle.std.proofs.lemmas.List.Sums.{position_or_len_is}
use Rattle.std.specs.List.{position_or_len}

-- the first position that passes is the one that alone does
pub position_is : {X : Type 0} (p : X → Bool) (xs : List X) (i : ℕ) (d : X) → i < length xs → p (get_or xs i d) ≡ true → ((k : ℕ) → k ≢ i → p (get_or xs k d) ≡ false) → position p xs ≡ Some i
position_is p xs i d within passes others =
    let e : position_or_len p xs ≡ i = position_or_len_is p xs i d (omega arith) (λ k lt. others k (omega arith)) (λ lt. passes) in
    rw (e, lt-ltb i (length xs) within) refl

-- where none passes there is no position
pub no_position : {X : Type 0} (p : X → Bool) (xs : List X) → ((k : ℕ) (d : X) → k < length xs → p (get_or xs k d) ≡ false) → position p xs ≡ None
no_position p [] fails = refl
no_position p (x ∷ xs) fails =
    let e : position_or_len p (x ∷ xs) ≡ length (x ∷ xs) = position_or_len_is p (x ∷ xs) (length (x ∷ xs)) x (omega arith) (λ k lt. fails k x lt) (λ lt. absurd (omega arith)) in
    rw (e, le-ltb (length (x ∷ xs)) (length (x ∷ xs)) (omega arith)) refl
