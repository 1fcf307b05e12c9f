-- Numbers of few digits.
use Rattle.std.proofs.Common.{◌≡◌, ℕ, ◌+◌, ◌/◌, ◌<◌, ◌≤◌, List, ◌++◌, length, take, drop, sym, ap, subst, ◌∙◌, arith, decimal}
use Rattle.std.proofs.lemmas.List.{take_at}
use Rattle.itoa.proofs.Decimal.{length_one, length_two, length_pair}

-- how many they are
pub three_digits : (n : ℕ) → 100 ≤ n → n < 1000 → length (decimal n) ≡ 3
three_digits n least most = length_pair n least (omega (arith, most)) ∙ ap (λ k. k + 2) (length_one (n / 100) (omega (arith, most)))

pub four_digits : (n : ℕ) → 1000 ≤ n → n < 10000 → length (decimal n) ≡ 4
four_digits n least most =
    length_pair n (omega (arith, least)) (omega (arith, most)) ∙ ap (λ k. k + 2) (length_two (n / 100) (omega (arith, least)) (omega (arith, most)))

pub five_digits : (n : ℕ) → 10000 ≤ n → n < 100000 → length (decimal n) ≡ 5
five_digits n least most =
    length_pair n (omega (arith, least)) (omega (arith, most)) ∙ ap (λ k. k + 2) (three_digits (n / 100) (omega (arith, least)) (omega (arith, most)))

pub six_digits : (n : ℕ) → 100000 ≤ n → n < 1000000 → length (decimal n) ≡ 6
six_digits n least most =
    length_pair n (omega (arith, least)) (omega (arith, most)) ∙ ap (λ k. k + 2) (four_digits (n / 100) (omega (arith, least)) (omega (arith, most)))

-- digits that end where they are as many stand at the front
pub at_front : (r k : ℕ) (ds new old : List ℕ) → r + length ds ≡ k → k ≡ length ds → drop r new ≡ ds ++ drop k old → take k new ≡ ds
at_front r k ds new old sum count written =
    let none : r ≡ 0 = omega (arith, sum, count) in
    let P : ℕ → Type 0 = λ n. drop n new ≡ ds ++ drop k old in
    ap (take k) (subst P none written) ∙ take_at ds (drop k old) k (sym count)
