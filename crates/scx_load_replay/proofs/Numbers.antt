-- Numbers that stand in lines.
use Rattle.std.proofs.Common.{◌≡◌, ℕ, ◌^◌, ◌<◌, Bool, true, false, nat_lt, nat_le, ◌&&◌, if◌then◌else◌, List, Option, Some, None, refl, arith}
use Rattle.std.specs.Str.Parse.{digits_value}
use Rattle.std.proofs.lemmas.Bool.Decides.{nat_tests}
use Rattle.scx_load_workloads.specs.Limit.{is_numeral, numeral}
use Rattle.scx_load_replay.specs.Lines.{within, number_in}

same : (a b : ℕ) → ◌≡◌ {A = Option ℕ} (Some a) (Some b) → a ≡ b
same a b e = cc

-- digits that aren't a number of 32 bits say none that is wanted
pub no_numeral : (least most : ℕ) (text : List ℕ) → most < 2 ^ 32 → numeral text ≡ None → number_in least most text ≡ None
no_numeral least most text l e = go (is_numeral text) (nat_lt (digits_value 10 text) (2 ^ 32)) refl refl e
  where
    past : (v : ℕ) → nat_lt v (2 ^ 32) ≡ false → within least most v ≡ None
    past v y = let high : nat_le v most ≡ false = grind (arith, nat_tests, y, l) in rw high (by_low (nat_le least v))
      where
        by_low : (b : Bool) → (if b && false then Some v else None) ≡ None
        by_low true = refl
        by_low false = refl

    go : (a b : Bool) → is_numeral text ≡ a → nat_lt (digits_value 10 text) (2 ^ 32) ≡ b → (if a && b then Some (digits_value 10 text) else None) ≡ None → number_in least most text ≡ None
    go true true x y f = absurd (cc)
    go true false x y f = rw x (past (digits_value 10 text) y)
    go false b x y f = rw x refl

-- and of what is one that number counts
pub numeral_is : (least most n : ℕ) (text : List ℕ) → numeral text ≡ Some n → number_in least most text ≡ within least most n
numeral_is least most n text e = go (is_numeral text) (nat_lt (digits_value 10 text) (2 ^ 32)) refl e
  where
    go : (a b : Bool) → is_numeral text ≡ a → (if a && b then Some (digits_value 10 text) else None) ≡ Some n → number_in least most text ≡ within least most n
    go true true x f = rw (x, same (digits_value 10 text) n f) refl
    go true false x f = absurd (cc)
    go false b x f = absurd (cc)
