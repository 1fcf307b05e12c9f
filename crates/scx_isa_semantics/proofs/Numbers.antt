-- Numbers of a running program are below 2 ^ 64: what arithmetic makes of such numbers, what stands in
-- an instruction, and what the host answers.
use Rattle.std.proofs.Common.{◌≡◌, ℕ, zero, suc, ◌-◌, ◌/◌, ◌%◌, ◌^◌, ◌<◌, ◌≤◌, ℤ, pos, negsuc, neg_ℤ, unsigned_abs, FitsSigned, int_div, int_rem, Bool, true, false, nat_eq, nat_lt, List, if◌then◌else◌, MatchBool, refl, arith}
use Rattle.std.proofs.Math.Nat.{div-le_self, mod-le}
use Rattle.std.proofs.lemmas.Bool.{ltb-false}
use Rattle.std.specs.Int.{w32, int_div_euclid}
use Rattle.std.proofs.lemmas.Int.{ints}
use Rattle.std.proofs.lemmas.Nat.{or_lt, xor_lt, and_le_l}
use Rattle.scx_isa_semantics.specs.declared.operations.Width.{Width}
use Rattle.scx_isa_semantics.specs.declared.operations.Width.TheVariants.{Bits32, Bits64}
use Rattle.scx_isa_semantics.specs.declared.operations.Operation.{Operation}
use Rattle.scx_isa_semantics.specs.declared.operations.Operation.TheVariants.{Add, Subtract, Multiply, Divide, SignedDivide, Or, And, Xor, ShiftLeft, ShiftRight, ShiftRightSigned, Modulo, SignedModulo, Move}
use Rattle.scx_isa_semantics.specs.declared.operations.Extension.{Extension}
use Rattle.scx_isa_semantics.specs.declared.operations.Extension.TheVariants.{Low8To32, Low16To32, Low8To64, Low16To64, Low32To64}
use Rattle.scx_isa_semantics.specs.declared.operations.ByteOrder.{ByteOrder}
use Rattle.scx_isa_semantics.specs.declared.operations.ByteOrder.TheVariants.{Little, Big, Swapped}
use Rattle.scx_isa_semantics.specs.declared.operations.SwapWidth.{SwapWidth}
use Rattle.scx_isa_semantics.specs.declared.operations.SwapWidth.TheVariants as order
use Rattle.scx_isa_semantics.specs.declared.values.Value.{Value}
use Rattle.scx_isa_semantics.specs.declared.values.Value.TheVariants.{Number}
use Rattle.scx_isa_semantics.specs.declared.host_tables.TaskId.{TaskId}
use Rattle.scx_isa_semantics.specs.declared.host_tables.Field.{Field}
use Rattle.scx_isa_semantics.specs.declared.host_tables.Field.TheVariants.{Slice, DsqVtime, RunNs}
use Rattle.scx_isa_semantics.specs.declared.host_tables.Helper.{Helper}
use Rattle.scx_isa_semantics.specs.Effects.{Call, Load}
use Rattle.scx_isa_semantics.specs.HostTables.{answers_task}
use Rattle.scx_isa_semantics.specs.Runs.{Fits, IsTaskOrNull, IsNumberBelow}
use Rattle.scx_isa_semantics.specs.Arithmetic.{bits, signed, unsigned, immediate, low, operate, compute, negative, sign_extension, low_bytes, reversed_bytes, byte_swapped, wide_immediate}

-- ---- signed numbers

-- the bits of a number, signed or not, that has so many
bits_below : (w : Width) (z : ℤ) → unsigned_abs z < 2 ^ bits w → unsigned w z < 2 ^ bits w
bits_below Bits32 (pos n) h = h
bits_below Bits32 (negsuc n) h = omega arith
bits_below Bits64 (pos n) h = h
bits_below Bits64 (negsuc n) h = omega arith

signed_below : (w : Width) (n : ℕ) → n < 2 ^ bits w → unsigned_abs (signed w n) < 2 ^ bits w
signed_below Bits32 n h = go (nat_lt n (2 ^ 31)) refl
  where
    go : (b : Bool) → nat_lt n (2 ^ 31) ≡ b → unsigned_abs (if b then pos n else negsuc (2 ^ 32 - suc n)) < 2 ^ 32
    go true e = h
    go false e = let above = ltb-false n (2 ^ 31) e in omega arith
signed_below Bits64 n h = go (nat_lt n (2 ^ 63)) refl
  where
    go : (b : Bool) → nat_lt n (2 ^ 63) ≡ b → unsigned_abs (if b then pos n else negsuc (2 ^ 64 - suc n)) < 2 ^ 64
    go true e = h
    go false e = let above = ltb-false n (2 ^ 63) e in omega arith

negative_size : (n : ℕ) → unsigned_abs (neg_ℤ (pos n)) ≡ n
negative_size zero = refl
negative_size (suc n) = refl

quotient_small : (a b : ℤ) → unsigned_abs (int_div a b) ≤ unsigned_abs a
quotient_small (pos a) (pos b) = div-le_self a b
quotient_small (pos a) (negsuc b) = rw (negative_size (a / suc b)) (div-le_self a (suc b))
quotient_small (negsuc a) (pos b) = rw (negative_size (suc a / b)) (div-le_self (suc a) b)
quotient_small (negsuc a) (negsuc b) = div-le_self (suc a) (suc b)

remainder_small : (a b : ℤ) → unsigned_abs (int_rem a b) ≤ unsigned_abs a
remainder_small (pos a) b = mod-le a (unsigned_abs b)
remainder_small (negsuc a) b = rw (negative_size (suc a % unsigned_abs b)) (mod-le (suc a) (unsigned_abs b))

shifted_small : (a : ℤ) (n : ℕ) → unsigned_abs (int_div_euclid a (pos n)) ≤ unsigned_abs a
shifted_small (pos a) n = div-le_self a n
shifted_small (negsuc a) n = let less = div-le_self a n in omega arith

-- ---- operations

if_below : (b : Bool) (m n limit : ℕ) → m < limit → n < limit → (if b then m else n) < limit
if_below true m n limit p q = p
if_below false m n limit p q = q

positive : (w : Width) → 0 < 2 ^ bits w
positive Bits32 = omega arith
positive Bits64 = omega arith

-- what arithmetic makes of two numbers that its width can hold, the width can hold
pub operated : (w : Width) (o : Operation) (a b : ℕ) → a < 2 ^ bits w → b < 2 ^ bits w → operate w o a b < 2 ^ bits w
operated w Add a b p q = let some = positive w in omega arith
operated w Subtract a b p q = let some = positive w in omega arith
operated w Multiply a b p q = let some = positive w in omega arith
operated w Divide a b p q = let less = div-le_self a b in if_below (nat_eq b 0) 0 (a / b) (2 ^ bits w) (positive w) (omega arith)
operated w SignedDivide a b p q =
    let less = quotient_small (signed w a) (signed w b) in
    let small = signed_below w a p in
    if_below (nat_eq b 0) 0 (unsigned w (int_div (signed w a) (signed w b))) (2 ^ bits w) (positive w)
    (bits_below w (int_div (signed w a) (signed w b)) (omega arith))
operated w Or a b p q = or_lt (bits w) a b p q
operated w And a b p q = let less = and_le_l a b in omega arith
operated w Xor a b p q = xor_lt (bits w) a b p q
operated w ShiftLeft a b p q = let some = positive w in omega arith
operated w ShiftRight a b p q = let less = div-le_self a (2 ^ (b % bits w)) in omega arith
operated w ShiftRightSigned a b p q =
    let less = shifted_small (signed w a) (2 ^ (b % bits w)) in
    let small = signed_below w a p in
    bits_below w (int_div_euclid (signed w a) (pos (2 ^ (b % bits w)))) (omega arith)
operated w Modulo a b p q = let less = mod-le a b in if_below (nat_eq b 0) a (a % b) (2 ^ bits w) p (omega arith)
operated w SignedModulo a b p q =
    let less = remainder_small (signed w a) (signed w b) in
    let small = signed_below w a p in
    if_below (nat_eq b 0) a (unsigned w (int_rem (signed w a) (signed w b))) (2 ^ bits w) p
    (bits_below w (int_rem (signed w a) (signed w b)) (omega arith))
operated w Move a b p q = q

width_below : (w : Width) (n : ℕ) → n < 2 ^ bits w → n < 2 ^ 64
width_below Bits32 n h = omega arith
width_below Bits64 n h = h

-- the part of a 64-bit operand that an instruction takes, its width can hold
pub low_fits : (w : Width) (n : ℕ) → n < 2 ^ 64 → low w n < 2 ^ bits w
low_fits Bits32 n h = omega arith
low_fits Bits64 n h = h

-- the part of an operand that an instruction takes
pub low_below : (w : Width) (n : ℕ) → n < 2 ^ 64 → low w n < 2 ^ 64
low_below w n h = width_below w (low w n) (low_fits w n h)

-- what arithmetic computes
pub compute_below : (w : Width) (o : Operation) (a b : ℕ) → a < 2 ^ 64 → b < 2 ^ 64 → compute w o a b < 2 ^ 64
compute_below w o a b p q = width_below w (compute w o a b) (operated w o (low w a) (low w b) (low_fits w a p) (low_fits w b q))

-- a negative
pub negated_below : (w : Width) (n : ℕ) → negative w n < 2 ^ 64
negated_below w n = let some = positive w in width_below w (negative w n) (omega arith)

-- ---- extensions and byte swaps

-- a number extended with its sign
pub extended_below : (e : Extension) (n : ℕ) → sign_extension e n < 2 ^ 64
extended_below Low8To32 n = omega (arith, ints)
extended_below Low16To32 n = omega (arith, ints)
extended_below Low8To64 n = omega (arith, ints)
extended_below Low16To64 n = omega (arith, ints)
extended_below Low32To64 n = omega (arith, ints)

kept_below : (w : SwapWidth) (n : ℕ) → n < 2 ^ 64 → low_bytes w n < 2 ^ 64
kept_below order.Bits16 n h = omega arith
kept_below order.Bits32 n h = omega arith
kept_below order.Bits64 n h = h

swapped_below : (w : SwapWidth) (n : ℕ) → reversed_bytes w n < 2 ^ 64
swapped_below order.Bits16 n = omega arith
swapped_below order.Bits32 n = omega arith
swapped_below order.Bits64 n = omega arith

-- a number with its bytes in another order
pub byte_swapped_below : (o : ByteOrder) (w : SwapWidth) (n : ℕ) → n < 2 ^ 64 → byte_swapped o w n < 2 ^ 64
byte_swapped_below Little w n h = kept_below w n h
byte_swapped_below Big w n h = swapped_below w (low_bytes w n)
byte_swapped_below Swapped w n h = swapped_below w (low_bytes w n)

-- ---- what stands in an instruction

-- an immediate
pub immediate_below : (w : Width) (k : ℤ) → FitsSigned w32 k → immediate w k < 2 ^ 64
immediate_below Bits32 k h = omega (arith, ints)
immediate_below Bits64 k h = omega (arith, ints)

-- a 64-bit immediate in two halves
pub wide_immediate_below : (low_half high_half : ℤ) → FitsSigned w32 low_half → FitsSigned w32 high_half → wide_immediate low_half high_half < 2 ^ 64
wide_immediate_below low_half high_half p q = omega (arith, ints)

-- ---- what the host answers

-- the answer of a helper
pub helper_answer_below : (h : Helper) (arguments : List Value) (n : ℕ) → Fits (Call h arguments) (Number n) → n < 2 ^ 64
helper_answer_below h arguments n = go (answers_task h)
  where
    go : (b : Bool) → MatchBool b (IsTaskOrNull (Number n)) (IsNumberBelow (2 ^ 64) (Number n)) → n < 2 ^ 64
    go true fits = omega (arith, fits)
    go false fits = fits

-- what a field holds
pub field_below : (t : TaskId) (f : Field) (n : ℕ) → Fits (Load t f) (Number n) → n < 2 ^ 64
field_below t Slice n fits = fits
field_below t DsqVtime n fits = fits
field_below t RunNs n fits = fits
field_below t f n fits = omega (arith, fits)
