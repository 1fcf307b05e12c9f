-- Bytes of the stack from one on, one after the other.
use Rattle.std.proofs.Common.{◌≡◌, ℕ, zero, suc, ◌+◌, ◌-◌, ◌/◌, ◌%◌, ◌<◌, ◌≤◌, true, false, ◌&&◌, List, [], ◌∷◌, length, set, refl, ap, ◌∙◌, sym, arith}
use Rattle.scx_abs.specs.declared.states.AbsState.{AbsState}
use Rattle.scx_abs.specs.declared.kinds.Cell.{Cell}
use Rattle.scx_abs.specs.Cells.{is_written, written_in}
use Rattle.scx_abs.specs.States.{cell_at, with_cell}
use Rattle.scx_abs.specs.Calls.{are_written, with_byte, with_written}

set_past : {A : Type 0} (xs : List A) (i : ℕ) (x : A) → length xs ≤ i → set xs i x ≡ xs
set_past [] i x h = refl
set_past (y ∷ xs) zero x h = absurd (omega (arith, h))
set_past (y ∷ xs) (suc i) x h = ap (λ l. y ∷ l) (set_past xs i x (omega (arith, h)))

-- no cell is past the stack
pub no_cell : (a : AbsState) (c : ℕ) (x : Cell) → length a.cells ≤ c → with_cell a c x ≡ a
no_cell a c x h = let same = set_past a.cells c x h in λ i. record { registers = a.registers; cells = same i }

-- a byte past the stack changes nothing
pub past_stack : (a : AbsState) (at : ℕ) → length a.cells ≤ at / 8 → a ≡ with_byte a at
past_stack a at h = sym (no_cell a (at / 8) _ h)

-- the first of those that are left, and the others
first_of_them : (a : AbsState) (byte end : ℕ) → byte < end → are_written a byte (end - byte) ≡ (is_written (written_in (cell_at a (byte / 8))) (byte % 8) && are_written a (byte + 1) (end - (byte + 1)))
first_of_them a byte end h = let left : end - byte ≡ suc (end - (byte + 1)) = omega (arith, h) in ap (are_written a byte) left

-- where it is written, the others say whether all are
pub others_say : (a : AbsState) (byte end : ℕ) → is_written (written_in (cell_at a (byte / 8))) (byte % 8) ≡ true → byte < end → are_written a (byte + 1) (end - (byte + 1)) ≡ are_written a byte (end - byte)
others_say a byte end e h = sym (first_of_them a byte end h ∙ ap (λ b. b && are_written a (byte + 1) (end - (byte + 1))) e)

-- where it isn't, not all are
pub one_missing : (a : AbsState) (byte end : ℕ) → is_written (written_in (cell_at a (byte / 8))) (byte % 8) ≡ false → byte < end → are_written a byte (end - byte) ≡ false
one_missing a byte end e h = first_of_them a byte end h ∙ ap (λ b. b && are_written a (byte + 1) (end - (byte + 1))) e

-- a byte is written, and then the others
pub one_filled_first : (a : AbsState) (byte end : ℕ) → byte < end → with_written (with_byte a byte) (byte + 1) (end - (byte + 1)) ≡ with_written a byte (end - byte)
one_filled_first a byte end h = let left : end - byte ≡ suc (end - (byte + 1)) = omega (arith, h) in sym (ap (with_written a byte) left)
