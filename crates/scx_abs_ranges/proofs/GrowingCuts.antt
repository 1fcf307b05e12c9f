-- A cut keeps nothing but members, and grows with its range.
use Rattle.std.proofs.Common.{◌≡◌, ◌≢◌, ℕ, ◌+◌, ◌-◌, ◌%◌, ◌^◌, ◌<◌, ◌≤◌, Bool, true, false, ◌&&◌, nat_eq, nat_le, Option, Some, None, if◌then◌else◌, sym, subst, arith}
use Rattle.std.proofs.lemmas.Bool.{eqb-true, eqb-false, leb-true, and_parts}
use Rattle.std.proofs.lemmas.Nat.{pow_pos}
use Rattle.scx_isa_semantics.specs.declared.operations.Comparison.{Comparison}
use Rattle.scx_isa_semantics.specs.declared.operations.Comparison.TheVariants.{Equal, Greater, GreaterOrEqual, NotEqual, Less, LessOrEqual}
use Rattle.scx_abs_ranges.specs.declared.ranges.Range.{Range}
use Rattle.scx_abs_ranges.specs.Ranges.{IsIn, IsRange, CoversRange, between, single, contains}
use Rattle.scx_abs_ranges.specs.Cuts.{above, up_to, from, below, equal, unequal, cut}
use Rattle.scx_abs_ranges.specs.Laws.{IsInCut, IsCutRange, CoversCut, CutsGrow, CutsNarrow}
use Rattle.scx_abs_ranges.proofs.Multiples.{if_case, by_bool, multiple_between, multiples_added, step_multiple, next_multiple}
use Rattle.scx_abs_ranges.proofs.Order.{covers_in, in_covers, low_in}
use Rattle.scx_abs_ranges.proofs.KeptByCuts.{strictly, above_keeps, up_to_keeps, from_keeps, below_keeps, equal_keeps, unequal_keeps, above_range, up_to_range, from_range, below_range, equal_range, unequal_range, cuts_are_ranges, above_only, up_to_only}

-- cuts that have such members are covered
pub cut_covers : (q p : Option Range) → IsCutRange q → IsCutRange p → ((n : ℕ) → IsInCut n p → IsInCut n q) → CoversCut q p
cut_covers None None wq wp f = tt
cut_covers (Some b) None wq wp f = tt
cut_covers None (Some a) wq wp f = f a.low (low_in a wp.formed)
cut_covers (Some b) (Some a) wq wp f = in_covers b a wq wp f

-- ---- nothing else is kept

-- the cut from a number on has only members that aren't below it
pub from_only : (c n : ℕ) (r : Range) → IsRange r → IsInCut n (from c r) → IsIn n r × (c ≤ n)
from_only c n r w =
    if_case (λ q. IsInCut n q → IsIn n r × (c ≤ n)) (nat_eq c 0) (Some r) (above (c - 1) r)
    (λ e h. let zero_first : c ≡ 0 = eqb-true c 0 e in (h, omega arith))
    (λ e h. let p = above_only (c - 1) n r w h in let more : c - 1 < n = p.1 in (p.0, omega arith))

-- the cut below a number has only members below it
pub below_only : (c n : ℕ) (r : Range) → IsRange r → IsInCut n (below c r) → IsIn n r × (n < c)
below_only c n r w =
    if_case (λ q. IsInCut n q → IsIn n r × (n < c)) (nat_eq c 0) None (up_to (c - 1) r)
    (λ e h. absurd h)
    (λ e h.
    let some : c ≢ 0 = eqb-false c 0 e in
    let p = up_to_only (c - 1) n r w h in
    let less : n ≤ c - 1 = p.1 in
    (p.0, positive_less c n some less))
  where
    positive_less : (c n : ℕ) → c ≢ 0 → n ≤ c - 1 → n < c
    positive_less c n f g = by_bool (nat_eq c 0) (λ e. absurd (f (eqb-true c 0 e))) (λ e. strictly n c (λ s. absurd (f (omega arith))) (omega arith))

is_contained : (c : ℕ) (r : Range) → contains c r ≡ true → IsIn c r
is_contained c r e =
    let last = and_parts (nat_le r.low c && nat_le c r.high) (nat_eq (c % 2 ^ r.shift) 0) e in
    let first = and_parts (nat_le r.low c) (nat_le c r.high) last.0 in
    record { from_low = leb-true r.low c first.0; to_high = leb-true c r.high first.1; multiple = eqb-true (c % 2 ^ r.shift) 0 last.1 }

alone_in : (c n : ℕ) → IsIn n (single c) → n ≡ c
alone_in c n h =
    let l : c ≤ n = h.from_low in
    let u : n ≤ c = h.to_high in
    omega arith

-- the cut to a number has only the member that is the number
pub equal_only : (c n : ℕ) (r : Range) → IsInCut n (equal c r) → IsIn n r × (n ≡ c)
equal_only c n r =
    if_case (λ q. IsInCut n q → IsIn n r × (n ≡ c)) (contains c r) (Some (single c)) None
    (λ e h. let same : n ≡ c = alone_in c n h in (subst (λ k. IsIn k r) (sym same) (is_contained c r e), same))
    (λ e h. absurd h)

room_above : (r : Range) → IsRange r → (r.low ≡ r.high → ⊥) → r.low + 2 ^ r.shift ≤ r.high
room_above r w other = next_multiple r.shift r.low r.high w.formed.small w.formed.low_multiple w.formed.high_multiple (strictly r.low r.high (λ s. other (sym s)) w.formed.ordered)

-- the second member of a range of several is a 64-bit number
pub second_fits : (r : Range) → IsRange r → r.low < r.high → r.low + 2 ^ r.shift < 2 ^ 64
second_fits r w l =
    let room = next_multiple r.shift r.low r.high w.formed.small w.formed.low_multiple w.formed.high_multiple l in
    let fits : r.high < 2 ^ 64 = w.fits in
    omega arith

-- the step of a range of several members is at most its high
pub step_below : (r : Range) → IsRange r → r.low < r.high → 2 ^ r.shift ≤ r.high
step_below r w l =
    let room = next_multiple r.shift r.low r.high w.formed.small w.formed.low_multiple w.formed.high_multiple l in
    omega arith

-- the cut without a number has only members of the range
pub unequal_only : (c n : ℕ) (r : Range) → IsRange r → IsInCut n (unequal c r) → IsIn n r
unequal_only c n r w =
    if_case (λ q. IsInCut n q → IsIn n r) (nat_eq c r.low) (if nat_eq c r.high then None else Some (between (r.low + 2 ^ r.shift) r.high r.shift))
    (if nat_eq c r.high then Some (between r.low (r.high - 2 ^ r.shift) r.shift) else Some r)
    (λ e.
    if_case (λ q. IsInCut n q → IsIn n r) (nat_eq c r.high) None (Some (between (r.low + 2 ^ r.shift) r.high r.shift))
    (λ f h. absurd h)
    (λ f h.
    let m = multiples_added r.shift r.low (2 ^ r.shift) w.formed.small w.formed.low_multiple (step_multiple r.shift w.formed.small) in
    let low : r.low + 2 ^ r.shift ≤ n = h.from_low in
    record { from_low = omega arith; to_high = h.to_high; multiple = multiple_between (r.low + 2 ^ r.shift) r.high r.shift n m h }))
    (λ e.
    if_case (λ q. IsInCut n q → IsIn n r) (nat_eq c r.high) (Some (between r.low (r.high - 2 ^ r.shift) r.shift)) (Some r)
    (λ f h.
    let high : n ≤ r.high - 2 ^ r.shift = h.to_high in
    record { from_low = h.from_low; to_high = omega arith; multiple = multiple_between r.low (r.high - 2 ^ r.shift) r.shift n w.formed.low_multiple h })
    (λ f h. h))

no_step_down : (a s : ℕ) → 0 < 2 ^ s → a + 2 ^ s ≤ a → ⊥
no_step_down a s p f = absurd (omega arith)

no_step_up : (a b s : ℕ) → 0 < 2 ^ s → a < b → b ≤ b - 2 ^ s → ⊥
no_step_up a b s p l f = absurd (omega arith)

-- an inequality with a member leaves it only inside
pub unequal_inner : (c : ℕ) (r : Range) → IsRange r → IsInCut c (unequal c r) → (r.low < c) × (c < r.high)
unequal_inner c r w =
    if_case (λ q. IsInCut c q → (r.low < c) × (c < r.high)) (nat_eq c r.low) (if nat_eq c r.high then None else Some (between (r.low + 2 ^ r.shift) r.high r.shift))
    (if nat_eq c r.high then Some (between r.low (r.high - 2 ^ r.shift) r.shift) else Some r)
    (λ e.
    let el : c ≡ r.low = eqb-true c r.low e in
    if_case (λ q. IsInCut c q → (r.low < c) × (c < r.high)) (nat_eq c r.high) None (Some (between (r.low + 2 ^ r.shift) r.high r.shift))
    (λ f h. absurd h)
    (λ f h.
    let low : r.low + 2 ^ r.shift ≤ c = h.from_low in
    absurd (no_step_down r.low r.shift (pow_pos r.shift) (subst (λ k. r.low + 2 ^ r.shift ≤ k) el low))))
    (λ e.
    if_case (λ q. IsInCut c q → (r.low < c) × (c < r.high)) (nat_eq c r.high) (Some (between r.low (r.high - 2 ^ r.shift) r.shift)) (Some r)
    (λ f h.
    let eh : c ≡ r.high = eqb-true c r.high f in
    let low : r.low ≤ c = h.from_low in
    let less : r.low < c = strictly r.low c (λ s. eqb-false c r.low e s) low in
    let high : c ≤ r.high - 2 ^ r.shift = h.to_high in
    absurd (no_step_up r.low c r.shift (pow_pos r.shift) less (subst (λ k. c ≤ k - 2 ^ r.shift) (sym eh) high)))
    (λ f h. (strictly r.low c (λ s. eqb-false c r.low e s) h.from_low, strictly c r.high (λ s. eqb-false c r.high f (sym s)) h.to_high)))

unequal_stays : (c : ℕ) (s : Range) → IsIn c s → s.low < c → c < s.high → IsInCut c (unequal c s)
unequal_stays c s h l u =
    if_case (IsInCut c) (nat_eq c s.low) (if nat_eq c s.high then None else Some (between (s.low + 2 ^ s.shift) s.high s.shift))
    (if nat_eq c s.high then Some (between s.low (s.high - 2 ^ s.shift) s.shift) else Some s)
    (λ e. let same : c ≡ s.low = eqb-true c s.low e in absurd (omega arith))
    (λ e. if_case (IsInCut c) (nat_eq c s.high) (Some (between s.low (s.high - 2 ^ s.shift) s.shift)) (Some s)
    (λ f. let same : c ≡ s.high = eqb-true c s.high f in absurd (omega arith)) (λ f. h))

-- ---- cuts grow

unequal_in : (c n : ℕ) (s r : Range) → IsRange s → IsRange r → CoversRange s r → IsInCut n (unequal c r) → IsInCut n (unequal c s)
unequal_in c n s r ws wr d h =
    let m = covers_in s r n d (unequal_only c n r wr h) in
    by_bool (nat_eq n c)
    (λ e.
    let same : n ≡ c = eqb-true n c e in
    let here = subst (λ k. IsInCut k (unequal c r)) same h in
    let inner = unequal_inner c r wr here in
    let low : s.low ≤ r.low = d.low in
    let high : r.high ≤ s.high = d.high in
    let a : r.low < c = inner.0 in
    let b : c < r.high = inner.1 in
    subst (λ k. IsInCut k (unequal c s)) (sym same) (unequal_stays c s (subst (λ k. IsIn k s) same m) (omega arith) (omega arith)))
    (λ e. unequal_keeps c n s ws m (eqb-false n c e))

above_grows : (c : ℕ) (s r : Range) → IsRange s → IsRange r → CoversRange s r → CoversCut (above c s) (above c r)
above_grows c s r ws wr d = cut_covers (above c s) (above c r) (above_range c s ws) (above_range c r wr) (λ n h. let p = above_only c n r wr h in above_keeps c n s ws (covers_in s r n d p.0) p.1)

up_to_grows : (c : ℕ) (s r : Range) → IsRange s → IsRange r → CoversRange s r → CoversCut (up_to c s) (up_to c r)
up_to_grows c s r ws wr d = cut_covers (up_to c s) (up_to c r) (up_to_range c s ws) (up_to_range c r wr) (λ n h. let p = up_to_only c n r wr h in up_to_keeps c n s ws (covers_in s r n d p.0) p.1)

from_grows : (c : ℕ) (s r : Range) → IsRange s → IsRange r → CoversRange s r → CoversCut (from c s) (from c r)
from_grows c s r ws wr d = cut_covers (from c s) (from c r) (from_range c s ws) (from_range c r wr) (λ n h. let p = from_only c n r wr h in from_keeps c n s ws (covers_in s r n d p.0) p.1)

below_grows : (c : ℕ) (s r : Range) → IsRange s → IsRange r → CoversRange s r → CoversCut (below c s) (below c r)
below_grows c s r ws wr d = cut_covers (below c s) (below c r) (below_range c s ws) (below_range c r wr) (λ n h. let p = below_only c n r wr h in below_keeps c n s ws (covers_in s r n d p.0) p.1)

equal_grows : (c : ℕ) (s r : Range) → IsRange s → IsRange r → CoversRange s r → CoversCut (equal c s) (equal c r)
equal_grows c s r ws wr d = cut_covers (equal c s) (equal c r) (equal_range c s ws) (equal_range c r wr) (λ n h. let p = equal_only c n r h in equal_keeps c n s (covers_in s r n d p.0) p.1)

unequal_grows : (c : ℕ) (s r : Range) → IsRange s → IsRange r → CoversRange s r → CoversCut (unequal c s) (unequal c r)
unequal_grows c s r ws wr d = cut_covers (unequal c s) (unequal c r) (unequal_range c s ws) (unequal_range c r wr) (λ n h. unequal_in c n s r ws wr d h)

-- of more, more is left
pub cuts_grow : CutsGrow
cuts_grow Equal true c s r ws wr d = equal_grows c s r ws wr d
cuts_grow Equal false c s r ws wr d = unequal_grows c s r ws wr d
cuts_grow NotEqual true c s r ws wr d = unequal_grows c s r ws wr d
cuts_grow NotEqual false c s r ws wr d = equal_grows c s r ws wr d
cuts_grow Greater true c s r ws wr d = above_grows c s r ws wr d
cuts_grow Greater false c s r ws wr d = up_to_grows c s r ws wr d
cuts_grow GreaterOrEqual true c s r ws wr d = from_grows c s r ws wr d
cuts_grow GreaterOrEqual false c s r ws wr d = below_grows c s r ws wr d
cuts_grow Less true c s r ws wr d = below_grows c s r ws wr d
cuts_grow Less false c s r ws wr d = from_grows c s r ws wr d
cuts_grow LessOrEqual true c s r ws wr d = up_to_grows c s r ws wr d
cuts_grow LessOrEqual false c s r ws wr d = above_grows c s r ws wr d
cuts_grow o b c s r ws wr d = d

-- ---- cuts narrow

narrower : (q : Option Range) (r : Range) → IsCutRange q → IsRange r → ((n : ℕ) → IsInCut n q → IsIn n r) → CoversCut (Some r) q
narrower q r wq wr f = cut_covers (Some r) q wr wq f

cut_only : (o : Comparison) (b : Bool) (c n : ℕ) (r : Range) → IsRange r → IsInCut n (cut o b c r) → IsIn n r
cut_only Equal true c n r w h = (equal_only c n r h).0
cut_only Equal false c n r w h = unequal_only c n r w h
cut_only NotEqual true c n r w h = unequal_only c n r w h
cut_only NotEqual false c n r w h = (equal_only c n r h).0
cut_only Greater true c n r w h = (above_only c n r w h).0
cut_only Greater false c n r w h = (up_to_only c n r w h).0
cut_only GreaterOrEqual true c n r w h = (from_only c n r w h).0
cut_only GreaterOrEqual false c n r w h = (below_only c n r w h).0
cut_only Less true c n r w h = (below_only c n r w h).0
cut_only Less false c n r w h = (from_only c n r w h).0
cut_only LessOrEqual true c n r w h = (up_to_only c n r w h).0
cut_only LessOrEqual false c n r w h = (above_only c n r w h).0
cut_only o b c n r w h = h

-- no more is left than there was
pub cuts_narrow : CutsNarrow
cuts_narrow o b c r w = narrower (cut o b c r) r (cuts_are_ranges o b c r w) w (λ n h. cut_only o b c n r w h)
