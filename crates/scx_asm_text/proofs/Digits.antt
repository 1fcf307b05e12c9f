-- Numbers of two digits, as they are added to a line.
use Rattle.std.proofs.Common.{◌≡◌, ℕ, ◌+◌, ◌/◌, ◌%◌, ◌<◌, ◌≤◌, List, [], ◌∷◌, ◌++◌, sym, ap, ◌∙◌, append_assoc, arith}
use Rattle.std.proofs.lemmas.Fmt.{decimal_digit, decimal_step}
use Rattle.std.specs.Fmt.{decimal}

-- a number of two digits is written by them
two_digits : (n : ℕ) → 10 ≤ n → n < 100 → decimal n ≡ (48 + n / 10) ∷ (48 + n % 10) ∷ []
two_digits n least most =
    decimal_step n least (omega (arith, most)) ∙ ap (λ (ds : List ℕ). ds ++ (48 + n % 10) ∷ []) (decimal_digit (n / 10) (omega (arith, most)))

-- two digits that were added to a text, one after the other, are such a number
pub two_pushed : (front one two : List ℕ) (n : ℕ) → 10 ≤ n → n < 100 → one ≡ front ++ (48 + n / 10) ∷ [] → two ≡ one ++ (48 + n % 10) ∷ [] → two ≡ front ++ decimal n
two_pushed front one two n least most a b =
    b ∙ (ap (λ (ds : List ℕ). ds ++ (48 + n % 10) ∷ []) a ∙ (append_assoc front ((48 + n / 10) ∷ []) ((48 + n % 10) ∷ []) ∙ ap (λ (ds : List ℕ). front ++ ds) (sym (two_digits n least most))))
