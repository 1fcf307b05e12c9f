-- Each stretch of a task is in one of its pieces.
use Rattle.std.proofs.Common.{◌≡◌, ◌≢◌, ℕ, ◌+◌, ◌-◌, Bool, true, false, if◌then◌else◌, List, [], ◌∷◌, ◌++◌, sum_by, None, Some, refl, sym, ap, subst, ◌∙◌, arith}
use Rattle.std.specs.Prelude.{nat_lt}
use Rattle.std.proofs.lemmas.Bool.{ltb-false}
use Rattle.std.proofs.lemmas.List.{append_assoc}
use Rattle.std.proofs.Math.Nat.{zero-add}
use Rattle.std.proofs.lemmas.List.Sums.{sum_by_push}
use Rattle.scxsim_template.specs.declared.stretches.Stretch.{Stretch}
use Rattle.scxsim_template.specs.declared.pieces.Joined.{Joined}
use Rattle.scxsim_template.specs.declared.pieces.Piece.{Piece}
use Rattle.scxsim_template.specs.declared.pieces.Piece.TheVariants.{One, Several}
use Rattle.scxsim_template.specs.Pieces.{at_most_64_bits, moment_of, ran_in, waited_in, parked_in, end_of, IsJoined, IsDrawn, AreDrawn, joined_of, joined, parted, listed, pieces_from}

-- a list that ends with something isn't empty
some_last : {A : Type 0} (xs : List A) (x : A) → (xs ++ x ∷ []) ≢ []
some_last [] x e = absurd (subst has_one e tt)
  where
    has_one : {A : Type 0} → List A → Type 0
    has_one [] = ⊥
    has_one (y ∷ ys) = Unit {0}
some_last (y ∷ ys) x e = absurd (subst has_one e tt)
  where
    has_one : {A : Type 0} → List A → Type 0
    has_one [] = ⊥
    has_one (z ∷ zs) = Unit {0}

-- stretches end with the last one
end_of_last : (s : Stretch) (ss : List Stretch) (t : Stretch) → moment_of t.until ≡ end_of s (ss ++ t ∷ [])
end_of_last s [] t = refl
end_of_last s (u ∷ us) t = end_of_last u us t

-- a sum that stops at the greatest number, and one number more
more : (a b c : ℕ) → c ≡ a + b → at_most_64_bits (at_most_64_bits a + b) ≡ at_most_64_bits c
more a b c e = omega (arith, e)

sum_more : (f : Stretch → ℕ) (s : Stretch) (ss : List Stretch) (t : Stretch) (a : ℕ) → a ≡ at_most_64_bits (sum_by f (s ∷ ss))
    → at_most_64_bits (a + f t) ≡ at_most_64_bits (sum_by f (s ∷ (ss ++ t ∷ [])))
sum_more f s ss t a e =
    ap (λ x. at_most_64_bits (x + f t)) e ∙ more (sum_by f (s ∷ ss)) (f t) (sum_by f (s ∷ (ss ++ t ∷ []))) (sum_by_push f (s ∷ ss) t)

-- two stretches
sum_two : (f : Stretch → ℕ) (s t : Stretch) → at_most_64_bits (f s + f t) ≡ at_most_64_bits (sum_by f (s ∷ t ∷ []))
sum_two f s t = ap (λ n. at_most_64_bits (n + f t)) (sym (zero-add (f s)))

two_joined : (width : ℕ) (s t : Stretch) → nat_lt width (moment_of t.until - moment_of s.since) ≡ false → IsJoined width s (t ∷ []) (joined (joined_of (One s)) t)
two_joined width s t short = record {
  some = some_last [] t;
  task = refl;
  since = refl;
  until = refl;
  short = ltb-false _ _ short;
  ran = sum_two ran_in s t;
  waited = sum_two waited_in s t;
  parked = sum_two parked_in s t;
}

-- several, and one more
more_joined : (width : ℕ) (s : Stretch) (ss : List Stretch) (j : Joined) (t : Stretch) → IsJoined width s ss j → nat_lt width (moment_of t.until - j.since) ≡ false
    → IsJoined width s (ss ++ t ∷ []) (joined j t)
more_joined width s ss j t is short = record {
  some = some_last ss t;
  task = is.task;
  since = is.since;
  until = end_of_last s ss t;
  short = ltb-false _ _ short;
  ran = sum_more ran_in s ss t j.ran is.ran;
  waited = sum_more waited_in s ss t j.waited is.waited;
  parked = sum_more parked_in s ss t j.parked is.parked;
}

piece_joined : (width : ℕ) (s : Stretch) (ss : List Stretch) (p : Piece) (t : Stretch) → IsDrawn width s ss p → nat_lt width (moment_of t.until - (joined_of p).since) ≡ false
    → IsJoined width s (ss ++ t ∷ []) (joined (joined_of p) t)
piece_joined width s ss (One u) t (same, none) short =
    subst (λ ts. IsJoined width s (ts ++ t ∷ []) (joined (joined_of (One u)) t)) (sym none)
    (subst (λ (x : Stretch). nat_lt width (moment_of t.until - moment_of x.since) ≡ false → IsJoined width s (t ∷ []) (joined (joined_of (One x)) t)) (sym same) (two_joined width s t) short)
piece_joined width s ss (Several j) t is short = more_joined width s ss j t is short

-- stretches after those of a piece
drawn_from : (width : ℕ) (rest : List Stretch) (s : Stretch) (ss : List Stretch) (p : Piece) → IsDrawn width s ss p → AreDrawn width ((s ∷ ss) ++ rest) (pieces_from width (Some p) rest)
drawn_from width [] s ss p is = (s, ss, [], refl, is, refl)
drawn_from width (t ∷ ts) s ss p is =
    go (nat_lt width (moment_of t.until - (joined_of p).since)) refl (drawn_from width ts t [] (One t) (refl, refl)) (drawn_from width ts s (ss ++ t ∷ []) (Several (joined (joined_of p) t)))
  where
    go : (b : Bool) → nat_lt width (moment_of t.until - (joined_of p).since) ≡ b
        → AreDrawn width (t ∷ ts) (pieces_from width (Some (One t)) ts)
        → (IsJoined width s (ss ++ t ∷ []) (joined (joined_of p) t) → AreDrawn width ((s ∷ (ss ++ t ∷ [])) ++ ts) (pieces_from width (Some (Several (joined (joined_of p) t))) ts))
        → AreDrawn width ((s ∷ ss) ++ t ∷ ts) (listed (parted p t (if b then None else Some (Several (joined (joined_of p) t)))).0 ++ pieces_from width (Some (parted p t (if b then None else Some (Several (joined (joined_of p) t)))).1) ts)
    go true e apart both = (s, ss, t ∷ ts, refl, is, apart)
    go false e apart both =
        subst (λ us. AreDrawn width (s ∷ us) (pieces_from width (Some (Several (joined (joined_of p) t))) ts)) (append_assoc ss (t ∷ []) ts)
        (both (piece_joined width s ss p t is e))

pub all_drawn : (width : ℕ) (ss : List Stretch) → AreDrawn width ss (pieces_from width None ss)
all_drawn width [] = refl
all_drawn width (s ∷ ss) = drawn_from width ss s [] (One s) (refl, refl)
