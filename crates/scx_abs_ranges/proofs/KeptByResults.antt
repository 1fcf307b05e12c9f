-- What an operation makes of members is a member of the result.
use Rattle.std.proofs.Common.{◌≡◌, ◌≢◌, ℕ, ◌+◌, ◌-◌, ◌*◌, ◌/◌, ◌%◌, ◌^◌, ◌<◌, ◌≤◌, min, max, Bool, true, false, ◌&&◌, nat_eq, nat_lt, if◌then◌else◌, bit_and, refl, ap, subst, ◌∙◌, arith}
use Rattle.std.specs.Int.Bits.{and_zero_l, and_zero_r}
use Rattle.std.proofs.lemmas.Bool.{eqb-true, eqb-false, ltb-true, and_parts}
use Rattle.std.proofs.lemmas.Nat.{pow_pos, mod_below, le-div, and_mod, and_le_l, and_le_r, pow-add}
use Rattle.std.proofs.lemmas.Nat.Gcd.{dvd_of_mod-eq-zero, mod-eq-zero_of_dvd}
use Rattle.std.proofs.Math.Nat.{mod-one, mod-le, mod-eq_of_lt, mul-le-mul, mul-dvd-mul, mod-mod_of_dvd, div-mul-le_self}
use Rattle.scx_isa_semantics.specs.declared.operations.Width.TheVariants.{Bits64}
use Rattle.scx_isa_semantics.specs.declared.operations.Operation.{Operation}
use Rattle.scx_isa_semantics.specs.declared.operations.Operation.TheVariants.{Add, Multiply, And, ShiftLeft, ShiftRight, Modulo, Move}
use Rattle.scx_isa_semantics.specs.Arithmetic.{compute}
use Rattle.scx_abs_ranges.specs.declared.ranges.Range.{Range}
use Rattle.scx_abs_ranges.specs.Ranges.{IsIn, IsRange, trailing, floor, between, single, all, is_single}
use Rattle.scx_abs_ranges.specs.Results.{sum_range, multiple_range, shifted_right, mask_range, remainder, by_constant, spread, operation_range}
use Rattle.scx_abs_ranges.proofs.Multiples.{by_less, if_case, in_between, in_single, in_all, multiples_added, multiple_of_less, floor_greatest, trailing_small, trailing_divides}

least_of : (a b n : ℕ) → n ≤ a → n ≤ b → n ≤ min a b
least_of a b n f g = omega arith

same_least : (c : ℕ) → c ≤ c
same_least c = omega arith

none_less : (c : ℕ) → 0 ≤ c
none_less c = omega arith

not_zero : (c : ℕ) → c ≢ 0 → 0 < c
not_zero c h = by_less 0 c (λ l. l) (λ l. absurd (h (omega arith)))

one_less : (a c : ℕ) → a < c → a ≤ c - 1
one_less a c h = omega arith

below_through : (a b c : ℕ) → a ≤ b → b < c → a < c
below_through a b c f g = omega arith

at_most_through : (a b c : ℕ) → a ≤ b → b ≤ c → a ≤ c
at_most_through a b c f g = omega arith

largest : (a b n : ℕ) → a ≤ n → b ≤ n → max a b ≤ n
largest a b n f g = omega arith

-- a shift to the right keeps the order
pub div_grows : (n h k : ℕ) → n ≤ h → n / 2 ^ k ≤ h / 2 ^ k
div_grows n h k l =
    let down : n / 2 ^ k * 2 ^ k ≤ n = div-mul-le_self n (2 ^ k) in
    le-div (n / 2 ^ k) h (2 ^ k) (pow_pos k) (omega arith)

-- ---- multiples

-- a multiple of one power of two, times a constant, is one of both powers, as far as 8
pub scaled_multiple : (n c s : ℕ) → n % 2 ^ s ≡ 0 → n * c % 2 ^ min 3 (s + trailing c) ≡ 0
scaled_multiple n c s h =
    let whole : n * c % 2 ^ (s + trailing c) ≡ 0 = ap (λ k. n * c % k) (pow-add 2 s (trailing c)) ∙ mod-eq-zero_of_dvd (2 ^ s * 2 ^ trailing c) (mul-dvd-mul (2 ^ s) (2 ^ trailing c) (dvd_of_mod-eq-zero (2 ^ s) h) (dvd_of_mod-eq-zero (2 ^ trailing c) (trailing_divides c))) in
    multiple_of_less (n * c) (s + trailing c) (min 3 (s + trailing c)) (omega arith) whole

and_left : (n c s : ℕ) → n % 2 ^ s ≡ 0 → bit_and n c % 2 ^ s ≡ 0
and_left n c s h = and_mod n c s ∙ ap (λ x. bit_and x (c % 2 ^ s)) h ∙ and_zero_l (c % 2 ^ s)

and_right : (n c s : ℕ) → c % 2 ^ s ≡ 0 → bit_and n c % 2 ^ s ≡ 0
and_right n c s h = and_mod n c s ∙ ap (λ x. bit_and (n % 2 ^ s) x) h ∙ and_zero_r (n % 2 ^ s)

-- a multiple, masked by a constant, is one of the greater power of two of both
pub masked_multiple : (n c s : ℕ) → n % 2 ^ s ≡ 0 → bit_and n c % 2 ^ max s (trailing c) ≡ 0
masked_multiple n c s h =
    by_less s (trailing c)
    (λ l. let e : max s (trailing c) ≡ trailing c = omega arith in rw e (and_right n c (trailing c) (trailing_divides c)))
    (λ l. let e : max s (trailing c) ≡ s = omega arith in rw e (and_left n c s h))

-- a multiple's remainder by a constant is one of the lesser power of two of both
pub remainder_multiple : (n c s : ℕ) → n % 2 ^ s ≡ 0 → n % c % 2 ^ min s (trailing c) ≡ 0
remainder_multiple n c s h =
    mod-mod_of_dvd (2 ^ min s (trailing c)) n (dvd_of_mod-eq-zero (2 ^ min s (trailing c)) (multiple_of_less c (trailing c) (min s (trailing c)) (omega arith) (trailing_divides c)))
    ∙ multiple_of_less n s (min s (trailing c)) (omega arith) h

-- ---- each operation

added_keeps : (r s : Range) (n m : ℕ) → IsRange r → IsRange s → IsIn n r → IsIn m s → IsIn ((n + m) % 2 ^ 64) (sum_range r s)
added_keeps r s n m wr ws h g =
    let hn : n ≤ r.high = h.to_high in
    let gm : m ≤ s.high = g.to_high in
    let ln : r.low ≤ n = h.from_low in
    let lm : s.low ≤ m = g.from_low in
    let small : r.shift ≤ 3 = wr.formed.small in
    if_case (λ q. IsIn ((n + m) % 2 ^ 64) q) (nat_lt (r.high + s.high) (2 ^ 64)) (between (r.low + s.low) (r.high + s.high) (min r.shift s.shift)) all
    (λ e.
    let fits : r.high + s.high < 2 ^ 64 = ltb-true (r.high + s.high) (2 ^ 64) e in
    let within : n + m < 2 ^ 64 = omega arith in
    let same : (n + m) % 2 ^ 64 ≡ n + m = mod-eq_of_lt within in
    rw same (in_between (r.low + s.low) (r.high + s.high) (min r.shift s.shift) (n + m) (omega arith) (omega arith)
    (multiples_added (min r.shift s.shift) n m (omega arith) (multiple_of_less n r.shift (min r.shift s.shift) (omega arith) h.multiple) (multiple_of_less m s.shift (min r.shift s.shift) (omega arith) g.multiple))))
    (λ e. in_all ((n + m) % 2 ^ 64) (mod_below (n + m) (2 ^ 64) (omega arith)))

scaled_keeps : (r : Range) (n c : ℕ) → IsIn n r → IsIn (n * c % 2 ^ 64) (multiple_range c r)
scaled_keeps r n c h =
    let up : n * c ≤ r.high * c = mul-le-mul h.to_high (same_least c) in
    let low : r.low * c ≤ n * c = mul-le-mul h.from_low (same_least c) in
    if_case (λ q. IsIn (n * c % 2 ^ 64) q) (nat_lt (r.high * c) (2 ^ 64)) (between (r.low * c) (r.high * c) (min 3 (r.shift + trailing c))) all
    (λ e.
    let fits : r.high * c < 2 ^ 64 = ltb-true (r.high * c) (2 ^ 64) e in
    let within : n * c < 2 ^ 64 = below_through (n * c) (r.high * c) (2 ^ 64) up fits in
    let same : n * c % 2 ^ 64 ≡ n * c = mod-eq_of_lt within in
    rw same (in_between (r.low * c) (r.high * c) (min 3 (r.shift + trailing c)) (n * c) low up (scaled_multiple n c r.shift h.multiple)))
    (λ e. in_all (n * c % 2 ^ 64) (mod_below (n * c) (2 ^ 64) (omega arith)))

shifted_keeps : (r : Range) (n c : ℕ) → IsIn n r → IsIn (n / 2 ^ (c % 64)) (shifted_right c r)
shifted_keeps r n c h =
    in_between (r.low / 2 ^ (c % 64)) (r.high / 2 ^ (c % 64)) 0 (n / 2 ^ (c % 64)) (div_grows r.low n (c % 64) h.from_low) (div_grows n r.high (c % 64) h.to_high) (mod-one (n / 2 ^ (c % 64)))

masked_keeps : (r : Range) (n c : ℕ) → IsRange r → IsIn n r → IsIn (bit_and n c) (mask_range c r)
masked_keeps r n c w h =
    let a = max r.shift (trailing c) in
    let up : bit_and n c ≤ min r.high c = least_of r.high c (bit_and n c) (at_most_through (bit_and n c) n r.high (and_le_l n c) h.to_high) (and_le_r n c) in
    let m = masked_multiple n c r.shift h.multiple in
    in_between 0 (floor (min r.high c) a) a (bit_and n c) (none_less (bit_and n c)) (floor_greatest a (bit_and n c) (min r.high c) (largest r.shift (trailing c) 3 w.formed.small (trailing_small c)) m up) m

remainder_case : (b : Bool) (n c : ℕ) (r : Range) → IsRange r → IsIn n r → n < 2 ^ 64 → (b ≡ false → c ≢ 0)
    → IsIn (if b then n else (n % c)) (if b then all else between 0 (floor (min r.high (c - 1)) (min r.shift (trailing c))) (min r.shift (trailing c)))
remainder_case true n c r w h fits f = in_all n fits
remainder_case false n c r w h fits f =
    let nonzero : c ≢ 0 = f refl in
    let positive : 0 < c = not_zero c nonzero in
    let small : r.shift ≤ 3 = w.formed.small in
    let less : n % c < c = mod_below n c positive in
    let a = min r.shift (trailing c) in
    let up : n % c ≤ min r.high (c - 1) = least_of r.high (c - 1) (n % c) (at_most_through (n % c) n r.high (mod-le n c) h.to_high) (one_less (n % c) c less) in
    let m = remainder_multiple n c r.shift h.multiple in
    in_between 0 (floor (min r.high (c - 1)) a) a (n % c) (none_less (n % c)) (floor_greatest a (n % c) (min r.high (c - 1)) (omega arith) m up) m

remainder_keeps : (r : Range) (n c : ℕ) → IsRange r → IsIn n r → n < 2 ^ 64 → IsIn (if nat_eq c 0 then n else (n % c)) (remainder c r)
remainder_keeps r n c w h fits =
    remainder_case (nat_eq c 0) n c r w h fits (λ e. eqb-false c 0 e)

constant_keeps : (o : Operation) (r : Range) (n c : ℕ) → IsRange r → IsIn n r → n < 2 ^ 64 → compute Bits64 o n c < 2 ^ 64 → IsIn (compute Bits64 o n c) (by_constant o c r)
constant_keeps Multiply r n c w h f g = scaled_keeps r n c h
constant_keeps ShiftLeft r n c w h f g = scaled_keeps r n (2 ^ (c % 64)) h
constant_keeps ShiftRight r n c w h f g = shifted_keeps r n c h
constant_keeps And r n c w h f g = masked_keeps r n c w h
constant_keeps Modulo r n c w h f g = remainder_keeps r n c w h f
constant_keeps o r n c w h f g = in_all (compute Bits64 o n c) g

-- a member of a single range is its low end
pub alone : (s : Range) (m : ℕ) → is_single s ≡ true → IsIn m s → m ≡ s.low
alone s m e h =
    let same : s.low ≡ s.high = eqb-true s.low s.high e in
    let l : s.low ≤ m = h.from_low in
    let u : m ≤ s.high = h.to_high in
    omega arith

constants_keep : (o : Operation) (r s : Range) (n m : ℕ) → IsRange r → IsIn n r → IsIn m s → n < 2 ^ 64 → compute Bits64 o n m < 2 ^ 64
    → IsIn (compute Bits64 o n m) (if is_single s then by_constant o s.low r else all)
constants_keep o r s n m w h g f fits =
    if_case (λ q. IsIn (compute Bits64 o n m) q) (is_single s) (by_constant o s.low r) all
    (λ e. let here : m ≡ s.low = alone s m e g in subst (λ k. IsIn (compute Bits64 o n m) (by_constant o k r)) here (constant_keeps o r n m w h f fits))
    (λ e. in_all (compute Bits64 o n m) fits)

spread_keeps : (o : Operation) (r s : Range) (n m : ℕ) → IsRange r → IsRange s → IsIn n r → IsIn m s → n < 2 ^ 64 → compute Bits64 o n m < 2 ^ 64
    → IsIn (compute Bits64 o n m) (spread o r s)
spread_keeps Move r s n m wr ws h g f fits = g
spread_keeps Add r s n m wr ws h g f fits = added_keeps r s n m wr ws h g
spread_keeps o r s n m wr ws h g f fits = constants_keep o r s n m wr h g f fits

-- what a 64-bit operation computes of members is in the range that is known of it
abbrev pub MembersAreKept : Type 0
MembersAreKept =
    (o : Operation) (r s : Range) (n m : ℕ) → IsRange r → IsRange s → IsIn n r → IsIn m s
    → compute Bits64 o n m < 2 ^ 64 → IsIn (compute Bits64 o n m) (operation_range o r s)

-- 64-bit operations on members give members of what is known
pub members_are_kept : MembersAreKept
members_are_kept o r s n m wr ws h g fits =
    let below : n < 2 ^ 64 = below_through n r.high (2 ^ 64) h.to_high wr.fits in
    if_case (λ q. IsIn (compute Bits64 o n m) q) (is_single r && is_single s) (single (compute Bits64 o r.low s.low)) (spread o r s)
    (λ e.
    let both = and_parts (is_single r) (is_single s) e in
    let a : n ≡ r.low = alone r n both.0 h in
    let b : m ≡ s.low = alone s m both.1 g in
    rw (← a, ← b) (in_single (compute Bits64 o n m)))
    (λ e. spread_keeps o r s n m wr ws h g below fits)
