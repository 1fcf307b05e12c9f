-- Sets of bytes, as loops go over them.
use Rattle.std.proofs.Common.{◌≡◌, ℕ, suc, ◌+◌, ◌-◌, ◌<◌, ◌≤◌, ◌⊎◌, inl, inr, Bool, true, false, ◌&&◌, ◌||◌, nat_le, nat_lt, List, length, set, refl, sym, ap, ◌∙◌, arith}
use Rattle.std.proofs.lemmas.Bool.{cases_eq, cases_lt, lt-ltb, le-ltb, le-leb, lt-leb, and_right, and_from, or_right}
use Rattle.std.proofs.lemmas.List.{ext_get_or, get_or-set_same, get_or-set_other}
use Rattle.scx_abs.specs.Cells.{is_written, each_byte, all_written}
use Rattle.scx_abs.proofs.Orders.{each_byte_at}

-- eight answers, one by one
pub each_byte_from : (xs : List Bool) (f : ℕ → Bool) → length xs ≡ 8 → ((k : ℕ) → k < 8 → is_written xs k ≡ f k) → xs ≡ each_byte f
each_byte_from xs f long h = ext_get_or false xs (each_byte f) long (λ i lt. let short : i < 8 = omega arith in h i short ∙ sym (each_byte_at f i short))

-- one byte further on
pub written_on : (s : List Bool) (j end : ℕ) → is_written s j ≡ true → j < end → all_written s (j + 1) (end - (j + 1)) ≡ all_written s j (end - j)
written_on s j end here lt =
    let one : end - j ≡ suc (end - (j + 1)) = omega arith in
    rw (one, here) refl

-- ---- the set with so many bytes from one on, byte by byte

or_nothing : (w b : Bool) → b ≡ false → w ≡ (w || b)
or_nothing true b e = refl
or_nothing false b e = sym e

-- before the first byte none is marked
pub marked_none : (s : List Bool) (first k : ℕ) → is_written s k ≡ (is_written s k || (nat_le first k && nat_lt k first))
marked_none s first k = or_nothing (is_written s k) (nat_le first k && nat_lt k first) (go (cases_lt k first))
  where
    go : (k < first) ⊎ (first ≤ k) → (nat_le first k && nat_lt k first) ≡ false
    go (inl lt) = rw (lt-leb first k lt) refl
    go (inr le) = and_right (nat_le first k) (nat_lt k first) (le-ltb k first le)

-- another byte doesn't lie between
same_below : (k j : ℕ) → (k ≡ j → ⊥) → nat_lt k j ≡ nat_lt k (j + 1)
same_below k j other = go (cases_lt k j)
  where
    go : (k < j) ⊎ (j ≤ k) → nat_lt k j ≡ nat_lt k (j + 1)
    go (inl lt) = lt-ltb k j lt ∙ sym (lt-ltb k (j + 1) (omega arith))
    go (inr le) = le-ltb k j le ∙ sym (le-ltb k (j + 1) (omega (arith, other)))

-- after one more, one more is
pub marked_more : (xs s : List Bool) (first j : ℕ) → j < length xs → first ≤ j → ((k : ℕ) → is_written xs k ≡ (is_written s k || (nat_le first k && nat_lt k j)))
    → (k : ℕ) → is_written (set xs j true) k ≡ (is_written s k || (nat_le first k && nat_lt k (j + 1)))
marked_more xs s first j short from so_far k = go (cases_eq k j)
  where
    go : (k ≡ j) ⊎ (k ≡ j → ⊥) → is_written (set xs j true) k ≡ (is_written s k || (nat_le first k && nat_lt k (j + 1)))
    go (inl same) =
        let written : is_written (set xs j true) k ≡ true = rw same (get_or-set_same xs j true false short) in
        let within : (nat_le first k && nat_lt k (j + 1)) ≡ true = and_from (nat_le first k) (nat_lt k (j + 1)) (le-leb first k (omega arith)) (lt-ltb k (j + 1) (omega arith)) in
        written ∙ sym (or_right (is_written s k) (nat_le first k && nat_lt k (j + 1)) within)
    go (inr other) = get_or-set_other xs j k true false other ∙ so_far k ∙ ap (λ b. is_written s k || (nat_le first k && b)) (same_below k j other)
