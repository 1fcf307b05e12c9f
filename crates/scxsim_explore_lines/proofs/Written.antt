-- Texts that were written, one after another.
use Rattle.std.proofs.Common.{◌≡◌, ℕ, zero, suc, ◌+◌, ◌<◌, List, [], ◌∷◌, ◌++◌, length, take, get_or, Option, Result, Ok, Err, refl, sym, ap, ◌∙◌, append_assoc, subst, arith}
use Rattle.std.proofs.lemmas.List.{append-nil}
use Rattle.std.proofs.KnownBytes.{Appends-nil, Appends-trans}
use Rattle.std.specs.Prelude.{OnOk, flat_map}
use Rattle.std.specs.Io.KnownBytes.{Appends}

-- two texts
pub two_on : {A E : Type 0} (r : Result A E) (a b c : Option (List ℕ)) (xs ys : List ℕ) → Appends a b xs → OnOk r (Appends b c ys) → OnOk r (Appends a c (xs ++ ys))
two_on (Ok x) a b c xs ys first next = Appends-trans a b c xs ys first next
two_on (Err x) a b c xs ys first next = next

-- three
pub three_on : {A E : Type 0} (r : Result A E) (a b c d : Option (List ℕ)) (xs ys zs : List ℕ) → Appends a b xs → Appends b c ys → OnOk r (Appends c d zs) → OnOk r (Appends a d (xs ++ ys ++ zs))
three_on r a b c d xs ys zs first next last = two_on r a c d (xs ++ ys) zs (Appends-trans a b c xs ys first next) last

lines_at : {A : Type 0} (f : A → List ℕ) (xs : List A) (k : ℕ) (x : A) → k < length xs → get_or xs k x ≡ x → flat_map f (take (suc k) xs) ≡ flat_map f (take k xs) ++ f x
lines_at f [] k x l is = absurd (omega (arith, l))
lines_at f (y ∷ xs) zero x l is = append-nil (f y) ∙ ap f is
lines_at f (y ∷ xs) (suc k) x l is =
    ap (λ (text : List ℕ). f y ++ text) (lines_at f xs k x (omega (arith, l)) is)
    ∙ sym (append_assoc (f y) (flat_map f (take k xs)) (f x))

lines_next : {A : Type 0} (f : A → List ℕ) (xs : List A) (k : ℕ) (x : A) → k < length xs → get_or xs k x ≡ x → flat_map f (take (k + 1) xs) ≡ flat_map f (take k xs) ++ f x
lines_next f xs k x l is =
    let next : suc k ≡ k + 1 = omega arith in
    subst (λ (n : ℕ). flat_map f (take n xs) ≡ flat_map f (take k xs) ++ f x) next (lines_at f xs k x l is)

-- these lines are written, and no write has failed
pub record AreWritten (lines : List ℕ) (a b : Option (List ℕ)) (m n : ℕ) : Type 0 where
  pub text : Appends a b lines
  pub unfailed : n ≡ m

-- no line
pub none_written : (a : Option (List ℕ)) (n : ℕ) → AreWritten [] a a n n
none_written a n = record { text = Appends-nil a; unfailed = refl }

-- the lines of the first elements, and those of one more
pub lines_more : {A : Type 0} (f : A → List ℕ) (xs : List A) (k : ℕ) (x : A) (a b c : Option (List ℕ)) (m n o : ℕ) → k < length xs → get_or xs k x ≡ x
    → AreWritten (flat_map f (take k xs)) a b m n → Appends b c (f x) → o ≡ n → AreWritten (flat_map f (take (k + 1) xs)) a c m o
lines_more f xs k x a b c m n o l is first next unfailed =
    let P : List ℕ → Type 0 = λ text. Appends a c text in
    record {
      text = subst P (sym (lines_next f xs k x l is)) (Appends-trans a b c _ _ first.text next);
      unfailed = unfailed ∙ first.unfailed;
    }
