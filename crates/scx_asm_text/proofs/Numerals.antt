-- Numbers of any length, as a loop adds digit to digit until the number is too large.
use Rattle.std.proofs.Common.{◌≡◌, ℕ, ◌+◌, ◌*◌, ◌^◌, ◌<◌, ◌≤◌, Bool, true, false, nat_lt, List, length, take, get_or, Option, Some, None, refl, sym, ap, ◌∙◌, arith}
use Rattle.std.proofs.lemmas.Bool.{ltb-true, ltb-false, le-ltb, lt-ltb}
use Rattle.std.specs.Char.{digit_value}
use Rattle.std.specs.Str.Parse.{digits_value}
use Rattle.std.proofs.lemmas.Int.Digits.{digits_value_more}
use Rattle.std.proofs.lemmas.Str.Parse.{digits_value-take-le}
use Rattle.std.proofs.lemmas.List.{take_all}
use Rattle.scx_asm_text.specs.Tokens.{if_64_bits}

abbrev absent : Option ℕ
absent = None

-- one digit more
pub one_digit : (radix : ℕ) (ds : List ℕ) (i value next : ℕ) → i < length ds → value ≡ digits_value radix (take i ds) → if_64_bits (value * radix + digit_value (get_or ds i 0)) ≡ Some next → (next ≡ digits_value radix (take (i + 1) ds)) × (next < 2 ^ 64)
one_digit radix ds i value next lt e h =
    go (nat_lt (value * radix + digit_value (get_or ds i 0)) (2 ^ 64)) refl
  where
    go : (b : Bool) → nat_lt (value * radix + digit_value (get_or ds i 0)) (2 ^ 64) ≡ b → (next ≡ digits_value radix (take (i + 1) ds)) × (next < 2 ^ 64)
    go true t = let same : Some (value * radix + digit_value (get_or ds i 0)) ≡ Some next = rw t at h in let eq : value * radix + digit_value (get_or ds i 0) ≡ next = cc in (sym eq ∙ rw e (sym (digits_value_more radix ds i lt)), omega (arith, ltb-true _ _ t))
    go false t = let bad : absent ≡ Some next = rw t at h in absurd (cc)

-- a number that is too large stays so
pub too_large : (radix : ℕ) (ds : List ℕ) (i value : ℕ) → 1 ≤ radix → i < length ds → value ≡ digits_value radix (take i ds) → if_64_bits (value * radix + digit_value (get_or ds i 0)) ≡ None → if_64_bits (digits_value radix ds) ≡ None
too_large radix ds i value base lt e h = go (nat_lt (value * radix + digit_value (get_or ds i 0)) (2 ^ 64)) refl
  where
    go : (b : Bool) → nat_lt (value * radix + digit_value (get_or ds i 0)) (2 ^ 64) ≡ b → if_64_bits (digits_value radix ds) ≡ None
    go true t = let bad : Some (value * radix + digit_value (get_or ds i 0)) ≡ absent = rw t at h in absurd (cc)
    go false t =
        let next : value * radix + digit_value (get_or ds i 0) ≡ digits_value radix (take (i + 1) ds) = rw e (sym (digits_value_more radix ds i lt)) in
        let large : 2 ^ 64 ≤ digits_value radix ds = omega (arith, next, ltb-false _ _ t, digits_value-take-le radix ds (i + 1) base) in
        rw (le-ltb _ _ large) refl

-- all digits are read
pub all_digits : (radix : ℕ) (ds : List ℕ) (i value : ℕ) → length ds ≤ i → value < 2 ^ 64 → value ≡ digits_value radix (take i ds) → Some value ≡ if_64_bits (digits_value radix ds)
all_digits radix ds i value le fits e =
    let whole : value ≡ digits_value radix ds = e ∙ ap (digits_value radix) (take_all i ds le) in
    let small : nat_lt (digits_value radix ds) (2 ^ 64) ≡ true = lt-ltb _ _ (omega arith) in
    rw small (ap (λ (n : ℕ). Some n) whole)
