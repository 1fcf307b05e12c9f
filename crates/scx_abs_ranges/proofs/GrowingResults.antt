-- Results grow with what they are made of.
use Rattle.std.proofs.Common.{◌≡◌, ℕ, ◌+◌, ◌-◌, ◌*◌, ◌/◌, ◌%◌, ◌^◌, ◌<◌, ◌≤◌, min, max, Bool, true, false, ◌&&◌, nat_eq, nat_lt, if◌then◌else◌, refl, subst, arith}
use Rattle.std.proofs.lemmas.Bool.{eqb-true, ltb-true, ltb-false, and_parts, eq-eqb}
use Rattle.std.proofs.Math.Nat.{mod-one, mul-le-mul, zero-mod}
use Rattle.scx_isa_semantics.specs.declared.operations.Width.TheVariants.{Bits64}
use Rattle.scx_isa_semantics.specs.declared.operations.Operation.{Operation}
use Rattle.scx_isa_semantics.specs.declared.operations.Operation.TheVariants.{Add, Multiply, And, ShiftLeft, ShiftRight, Modulo, Move}
use Rattle.scx_isa_semantics.specs.Arithmetic.{compute}
use Rattle.scx_abs_ranges.specs.declared.ranges.Range.{Range}
use Rattle.scx_abs_ranges.specs.Ranges.{IsIn, IsRange, CoversRange, trailing, floor, between, single, all, is_single}
use Rattle.scx_abs_ranges.specs.Results.{sum_range, multiple_range, shifted_right, mask_range, remainder, by_constant, spread, operation_range}
use Rattle.scx_abs_ranges.proofs.Multiples.{if_case, in_between, multiple_between, in_all, multiples_added, multiple_of_less, floor_greatest, floor_below, trailing_small}
use Rattle.scx_abs_ranges.proofs.Order.{covers_in, in_covers, low_in}
use Rattle.scx_abs_ranges.proofs.KeptByResults.{div_grows, scaled_multiple, alone, members_are_kept}
use Rattle.scx_abs_ranges.proofs.ResultRanges.{results_are_ranges}

same_least : (c : ℕ) → c ≤ c
same_least c = omega arith

through : (a b c : ℕ) → a ≤ b → b ≤ c → a ≤ c
through a b c f g = omega arith

below_through : (a b c : ℕ) → a ≤ b → b < c → a < c
below_through a b c f g = omega arith

min_grows : (a a' b : ℕ) → a ≤ a' → min a b ≤ min a' b
min_grows a a' b f = omega arith

max_grows : (a a' b : ℕ) → a ≤ a' → max a b ≤ max a' b
max_grows a a' b f = omega arith

sum_grows : (a a' b b' : ℕ) → a ≤ a' → b ≤ b' → a + b ≤ a' + b'
sum_grows a a' b b' f g = omega arith

mins_grow : (a a' b b' : ℕ) → a ≤ a' → b ≤ b' → min a b ≤ min a' b'
mins_grow a a' b b' f g = omega arith

caps_grow : (a a' b : ℕ) → a ≤ a' → min 3 (a + b) ≤ min 3 (a' + b)
caps_grow a a' b f = omega arith

largest : (a b n : ℕ) → a ≤ n → b ≤ n → max a b ≤ n
largest a b n f g = omega arith

small_least : (a b : ℕ) → a ≤ 3 → min a b ≤ 3
small_least a b f = omega arith

least_left : (a b : ℕ) → min a b ≤ a
least_left a b = omega arith

least_right : (a b : ℕ) → min a b ≤ b
least_right a b = omega arith

none_less : (c : ℕ) → 0 ≤ c
none_less c = omega arith

member_fits : (x : ℕ) (q : Range) → IsRange q → IsIn x q → x < 2 ^ 64
member_fits x q w h = below_through x q.high (2 ^ 64) h.to_high w.fits

sum_multiple : (r s : Range) → IsRange r → IsRange s → (r.low + s.low) % 2 ^ min r.shift s.shift ≡ 0
sum_multiple r s wr ws =
    multiples_added (min r.shift s.shift) r.low s.low (small_least r.shift s.shift wr.formed.small)
    (multiple_of_less r.low r.shift (min r.shift s.shift) (least_left r.shift s.shift) wr.formed.low_multiple)
    (multiple_of_less s.low s.shift (min r.shift s.shift) (least_right r.shift s.shift) ws.formed.low_multiple)

added_grows : (r' s' r s : Range) (x : ℕ) → IsRange r → IsRange s → CoversRange r' r → CoversRange s' s → x < 2 ^ 64 → IsIn x (sum_range r s) → IsIn x (sum_range r' s')
added_grows r' s' r s x wr ws c d fits =
    let lows = sum_grows r'.low r.low s'.low s.low c.low d.low in
    let highs = sum_grows r.high r'.high s.high s'.high c.high d.high in
    if_case (λ q. IsIn x (sum_range r s) → IsIn x q) (nat_lt (r'.high + s'.high) (2 ^ 64)) (between (r'.low + s'.low) (r'.high + s'.high) (min r'.shift s'.shift)) all
    (λ e.
    let small = below_through (r.high + s.high) (r'.high + s'.high) (2 ^ 64) highs (ltb-true (r'.high + s'.high) (2 ^ 64) e) in
    if_case (λ q. IsIn x q → IsIn x (between (r'.low + s'.low) (r'.high + s'.high) (min r'.shift s'.shift))) (nat_lt (r.high + s.high) (2 ^ 64)) (between (r.low + s.low) (r.high + s.high) (min r.shift s.shift)) all
    (λ f h. in_between (r'.low + s'.low) (r'.high + s'.high) (min r'.shift s'.shift) x (through (r'.low + s'.low) (r.low + s.low) x lows h.from_low) (through x (r.high + s.high) (r'.high + s'.high) h.to_high highs)
    (multiple_of_less x (min r.shift s.shift) (min r'.shift s'.shift) (mins_grow r'.shift r.shift s'.shift s.shift c.shift d.shift)
    (multiple_between (r.low + s.low) (r.high + s.high) (min r.shift s.shift) x (sum_multiple r s wr ws) h)))
    (λ f h. let g : 2 ^ 64 ≤ r.high + s.high = ltb-false (r.high + s.high) (2 ^ 64) f in absurd (omega arith)))
    (λ e h. in_all x fits)

scaled_grows : (k : ℕ) (r' r : Range) (x : ℕ) → IsRange r → CoversRange r' r → x < 2 ^ 64 → IsIn x (multiple_range k r) → IsIn x (multiple_range k r')
scaled_grows k r' r x wr c fits =
    let lows = mul-le-mul c.low (same_least k) in
    let highs = mul-le-mul c.high (same_least k) in
    if_case (λ q. IsIn x (multiple_range k r) → IsIn x q) (nat_lt (r'.high * k) (2 ^ 64)) (between (r'.low * k) (r'.high * k) (min 3 (r'.shift + trailing k))) all
    (λ e.
    let small = below_through (r.high * k) (r'.high * k) (2 ^ 64) highs (ltb-true (r'.high * k) (2 ^ 64) e) in
    if_case (λ q. IsIn x q → IsIn x (between (r'.low * k) (r'.high * k) (min 3 (r'.shift + trailing k)))) (nat_lt (r.high * k) (2 ^ 64)) (between (r.low * k) (r.high * k) (min 3 (r.shift + trailing k))) all
    (λ f h. in_between (r'.low * k) (r'.high * k) (min 3 (r'.shift + trailing k)) x (through (r'.low * k) (r.low * k) x lows h.from_low) (through x (r.high * k) (r'.high * k) h.to_high highs)
    (multiple_of_less x (min 3 (r.shift + trailing k)) (min 3 (r'.shift + trailing k)) (caps_grow r'.shift r.shift (trailing k) c.shift)
    (multiple_between (r.low * k) (r.high * k) (min 3 (r.shift + trailing k)) x (scaled_multiple r.low k r.shift wr.formed.low_multiple) h)))
    (λ f h. let g : 2 ^ 64 ≤ r.high * k = ltb-false (r.high * k) (2 ^ 64) f in absurd (omega arith)))
    (λ e h. in_all x fits)

shifted_grows : (k : ℕ) (r' r : Range) (x : ℕ) → CoversRange r' r → IsIn x (shifted_right k r) → IsIn x (shifted_right k r')
shifted_grows k r' r x c h =
    let p = 2 ^ (k % 64) in
    in_between (r'.low / p) (r'.high / p) 0 x (through (r'.low / p) (r.low / p) x (div_grows r'.low r.low (k % 64) c.low) h.from_low)
    (through x (r.high / p) (r'.high / p) h.to_high (div_grows r.high r'.high (k % 64) c.high)) (mod-one x)

-- from 0 to a bound, cut down to a multiple
cut_grows : (b b' a a' x : ℕ) → a' ≤ 3 → b ≤ b' → a' ≤ a → IsIn x (between 0 (floor b a) a) → IsIn x (between 0 (floor b' a') a')
cut_grows b b' a a' x small f g h =
    let m = multiple_of_less x a a' g (multiple_between 0 (floor b a) a x (zero-mod (2 ^ a)) h) in
    let up = through x b b' (through x (floor b a) b h.to_high (floor_below b a)) f in
    in_between 0 (floor b' a') a' x (none_less x) (floor_greatest a' x b' small m up) m

masked_grows : (k : ℕ) (r' r : Range) (x : ℕ) → IsRange r' → CoversRange r' r → IsIn x (mask_range k r) → IsIn x (mask_range k r')
masked_grows k r' r x w c h =
    cut_grows (min r.high k) (min r'.high k) (max r.shift (trailing k)) (max r'.shift (trailing k)) x (largest r'.shift (trailing k) 3 w.formed.small (trailing_small k)) (min_grows r.high r'.high k c.high)
    (max_grows r'.shift r.shift (trailing k) c.shift) h

remainder_by : (b : Bool) (k : ℕ) (r' r : Range) (x : ℕ) → IsRange r' → CoversRange r' r
    → IsIn x (if b then all else between 0 (floor (min r.high (k - 1)) (min r.shift (trailing k))) (min r.shift (trailing k)))
    → IsIn x (if b then all else between 0 (floor (min r'.high (k - 1)) (min r'.shift (trailing k))) (min r'.shift (trailing k)))
remainder_by true k r' r x w c h = h
remainder_by false k r' r x w c h =
    cut_grows (min r.high (k - 1)) (min r'.high (k - 1)) (min r.shift (trailing k)) (min r'.shift (trailing k)) x (small_least r'.shift (trailing k) w.formed.small) (min_grows r.high r'.high (k - 1) c.high)
    (min_grows r'.shift r.shift (trailing k) c.shift) h

remainder_grows : (k : ℕ) (r' r : Range) (x : ℕ) → IsRange r' → CoversRange r' r → x < 2 ^ 64 → IsIn x (remainder k r) → IsIn x (remainder k r')
remainder_grows k r' r x w c fits = remainder_by (nat_eq k 0) k r' r x w c

constant_grows : (o : Operation) (k : ℕ) (r' r : Range) (x : ℕ) → IsRange r' → IsRange r → CoversRange r' r → x < 2 ^ 64 → IsIn x (by_constant o k r) → IsIn x (by_constant o k r')
constant_grows Multiply k r' r x w' w c fits h = scaled_grows k r' r x w c fits h
constant_grows ShiftLeft k r' r x w' w c fits h = scaled_grows (2 ^ (k % 64)) r' r x w c fits h
constant_grows ShiftRight k r' r x w' w c fits h = shifted_grows k r' r x c h
constant_grows And k r' r x w' w c fits h = masked_grows k r' r x w' c h
constant_grows Modulo k r' r x w' w c fits h = remainder_grows k r' r x w' c fits h
constant_grows o k r' r x w' w c fits h = h

apart : (b : Bool) → b ≡ true → b ≡ false → ⊥
apart b e f = absurd (cc)

-- a range that a single one covers is single
pub single_below : (r' r : Range) → IsRange r → CoversRange r' r → is_single r' ≡ true → is_single r ≡ true
single_below r' r w c e =
    let same : r'.low ≡ r'.high = eqb-true r'.low r'.high e in
    let a : r'.low ≤ r.low = c.low in
    let b : r.low ≤ r.high = w.formed.ordered in
    let d : r.high ≤ r'.high = c.high in
    eq-eqb r.low r.high (omega arith)

same_low : (r' r : Range) → IsRange r → CoversRange r' r → is_single r' ≡ true → r.low ≡ r'.low
same_low r' r w c e =
    let same : r'.low ≡ r'.high = eqb-true r'.low r'.high e in
    let a : r'.low ≤ r.low = c.low in
    let b : r.low ≤ r.high = w.formed.ordered in
    let d : r.high ≤ r'.high = c.high in
    omega arith

constants_grow : (o : Operation) (r' s' r s : Range) (x : ℕ) → IsRange r' → IsRange r → IsRange s → CoversRange r' r → CoversRange s' s → x < 2 ^ 64
    → IsIn x (if is_single s then by_constant o s.low r else all) → IsIn x (if is_single s' then by_constant o s'.low r' else all)
constants_grow o r' s' r s x wr' wr ws c d fits h =
    if_case (λ q. IsIn x q) (is_single s') (by_constant o s'.low r') all
    (λ e.
    let low = same_low s' s ws d e in
    if_case (λ q. IsIn x q → IsIn x (by_constant o s'.low r')) (is_single s) (by_constant o s.low r) all
    (λ f g. subst (λ k. IsIn x (by_constant o k r')) low (constant_grows o s.low r' r x wr' wr c fits g))
    (λ f g. absurd (apart (is_single s) (single_below s' s ws d e) f)) h)
    (λ e. in_all x fits)

spread_grows : (o : Operation) (r' s' r s : Range) (x : ℕ) → IsRange r' → IsRange r → IsRange s → CoversRange r' r → CoversRange s' s → x < 2 ^ 64
    → IsIn x (spread o r s) → IsIn x (spread o r' s')
spread_grows Move r' s' r s x wr' wr ws c d fits h = covers_in s' s x d h
spread_grows Add r' s' r s x wr' wr ws c d fits h = added_grows r' s' r s x wr ws c d fits h
spread_grows o r' s' r s x wr' wr ws c d fits h = constants_grow o r' s' r s x wr' wr ws c d fits h

-- where each of two tests follows from another, both follow from both
pub both_single : (b' d' b d : Bool) → (b' ≡ true → b ≡ true) → (d' ≡ true → d ≡ true) → (b' && d') ≡ true → (b && d) ≡ true
both_single b' d' b d f g e = let both = and_parts b' d' e in let x = f both.0 in let y = g both.1 in rw (x, y) refl

result_grows : (o : Operation) (r' s' r s : Range) (x : ℕ) → IsRange r' → IsRange s' → IsRange r → IsRange s → compute Bits64 o r.low s.low < 2 ^ 64 → CoversRange r' r → CoversRange s' s → x < 2 ^ 64
    → IsIn x (operation_range o r s) → IsIn x (operation_range o r' s')
result_grows o r' s' r s x wr' ws' wr ws below c d fits =
    if_case (λ q. IsIn x q → IsIn x (operation_range o r' s')) (is_single r && is_single s) (single (compute Bits64 o r.low s.low)) (spread o r s)
    (λ e h.
    let here : x ≡ compute Bits64 o r.low s.low = alone (single (compute Bits64 o r.low s.low)) x (eq-eqb (compute Bits64 o r.low s.low) (compute Bits64 o r.low s.low) refl) h in
    rw here (members_are_kept o r' s' r.low s.low wr' ws' (covers_in r' r r.low c (low_in r wr.formed)) (covers_in s' s s.low d (low_in s ws.formed)) below))
    (λ e h.
    if_case (λ q. IsIn x q) (is_single r' && is_single s') (single (compute Bits64 o r'.low s'.low)) (spread o r' s')
    (λ f. absurd (apart (is_single r && is_single s) (both_single (is_single r') (is_single s') (is_single r) (is_single s) (single_below r' r wr c) (single_below s' s ws d) f) e))
    (λ f. spread_grows o r' s' r s x wr' wr ws c d fits h))

low_fits : (r : Range) → IsRange r → r.low < 2 ^ 64
low_fits r w = below_through r.low r.high (2 ^ 64) w.formed.ordered w.fits

-- what is known of a 64-bit operation grows with what is known of its numbers
abbrev pub ResultsGrow : Type 0
ResultsGrow =
    (o : Operation) (r' s' r s : Range) → IsRange r' → IsRange s' → IsRange r → IsRange s → ((n m : ℕ) → n < 2 ^ 64 → m < 2 ^ 64 → compute Bits64 o n m < 2 ^ 64)
    → CoversRange r' r → CoversRange s' s → CoversRange (operation_range o r' s') (operation_range o r s)

-- what is known of 64-bit operations grows
pub results_grow : ResultsGrow
results_grow o r' s' r s wr' ws' wr ws fits c d =
    let big = results_are_ranges o r' s' wr' ws' (fits r'.low s'.low (low_fits r' wr') (low_fits s' ws')) in
    let small = results_are_ranges o r s wr ws (fits r.low s.low (low_fits r wr) (low_fits s ws)) in
    in_covers (operation_range o r' s') (operation_range o r s) big small
    (λ x h. result_grows o r' s' r s x wr' ws' wr ws (fits r.low s.low (low_fits r wr) (low_fits s ws)) c d (member_fits x (operation_range o r s) small h) h)
