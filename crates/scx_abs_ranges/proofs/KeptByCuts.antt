-- A cut keeps exactly the members that satisfy the comparison, but for an inequality, which takes only
-- an end away.
use Rattle.std.proofs.Common.{◌≡◌, ◌≢◌, ℕ, ◌+◌, ◌-◌, ◌%◌, ◌^◌, ◌<◌, ◌≤◌, min, max, Bool, true, false, not, ◌&&◌, nat_eq, nat_le, nat_lt, Some, None, if◌then◌else◌, sym, ap, ◌∙◌, arith}
use Rattle.std.proofs.lemmas.Bool.{eqb-true, eqb-false, ltb-true, ltb-false, leb-true, leb-false, le-leb, eq-eqb, and_parts}
use Rattle.scx_isa_semantics.specs.declared.operations.Comparison.TheVariants.{Equal, Greater, GreaterOrEqual, NotEqual, Less, LessOrEqual}
use Rattle.scx_abs_ranges.specs.declared.ranges.Range.{Range}
use Rattle.scx_abs_ranges.specs.Ranges.{IsIn, IsRange, floor, between, single, contains}
use Rattle.scx_abs_ranges.specs.Cuts.{above, up_to, from, below, equal, unequal}
use Rattle.scx_abs_ranges.specs.Laws.{IsInCut, IsCutRange, CutsKeep, CutsAreRanges}
use Rattle.scx_abs_ranges.proofs.Multiples.{multiple_between, by_less, by_bool, if_case, in_between, between_range, single_range, in_single, multiples_added, multiples_taken, step_multiple, next_multiple, floor_multiple, floor_below, floor_next, floor_greatest}

largest : (a b n : ℕ) → a ≤ n → b ≤ n → max a b ≤ n
largest a b n f g = omega arith

least_of : (a b n : ℕ) → n ≤ a → n ≤ b → n ≤ min a b
least_of a b n f g = omega arith

lower : (a b c : ℕ) → a ≤ b → b < c → a < c
lower a b c f g = omega arith

apart : (b : Bool) → b ≡ true → b ≡ false → ⊥
apart b e f = absurd (cc)

-- a number that is at most another and differs from it is less
pub strictly : (a b : ℕ) → (b ≡ a → ⊥) → a ≤ b → a < b
strictly a b f l = by_less a b (λ h. h) (λ h. absurd (f (omega arith)))

differ : (n c : ℕ) → not (nat_eq n c) ≡ true → n ≢ c
differ n c e = by_bool (nat_eq n c) (λ f. absurd (apart (not (nat_eq n c)) e (ap not f))) (λ f. eqb-false n c f)

agree : (n c : ℕ) → not (nat_eq n c) ≡ false → n ≡ c
agree n c e = by_bool (nat_eq n c) (λ f. eqb-true n c f) (λ f. absurd (apart (not (nat_eq n c)) (ap not f) e))

-- ---- what is kept

-- a member above the number is kept by the cut above it
pub above_keeps : (c n : ℕ) (r : Range) → IsRange r → IsIn n r → c < n → IsInCut n (above c r)
above_keeps c n r w h l =
    let low : r.low ≤ n = h.from_low in
    let high : n ≤ r.high = h.to_high in
    let below_n : floor c r.shift < n = omega (floor_below c r.shift, arith) in
    let next : floor c r.shift + 2 ^ r.shift ≤ n = next_multiple r.shift (floor c r.shift) n w.formed.small (floor_multiple r.shift c w.formed.small) h.multiple below_n in
    if_case (IsInCut n) (nat_lt c r.high) (Some (between (max r.low (floor c r.shift + 2 ^ r.shift)) r.high r.shift)) None
    (λ e. in_between (max r.low (floor c r.shift + 2 ^ r.shift)) r.high r.shift n (largest r.low (floor c r.shift + 2 ^ r.shift) n low next) high h.multiple)
    (λ e. let f : r.high ≤ c = ltb-false c r.high e in absurd (omega arith))

-- a member that isn't above the number is kept by the cut up to it
pub up_to_keeps : (c n : ℕ) (r : Range) → IsRange r → IsIn n r → n ≤ c → IsInCut n (up_to c r)
up_to_keeps c n r w h l =
    let low : r.low ≤ n = h.from_low in
    if_case (IsInCut n) (nat_le r.low c) (Some (between r.low (min r.high (floor c r.shift)) r.shift)) None
    (λ e. in_between r.low (min r.high (floor c r.shift)) r.shift n low (least_of r.high (floor c r.shift) n h.to_high (floor_greatest r.shift n c w.formed.small h.multiple l)) h.multiple)
    (λ e. let f : c < r.low = leb-false r.low c e in absurd (omega arith))

-- a member that isn't below the number is kept by the cut from it on
pub from_keeps : (c n : ℕ) (r : Range) → IsRange r → IsIn n r → c ≤ n → IsInCut n (from c r)
from_keeps c n r w h l =
    if_case (IsInCut n) (nat_eq c 0) (Some r) (above (c - 1) r) (λ e. h)
    (λ e. let f : c ≢ 0 = eqb-false c 0 e in above_keeps (c - 1) n r w h (omega arith))

-- a member below the number is kept by the cut below it
pub below_keeps : (c n : ℕ) (r : Range) → IsRange r → IsIn n r → n < c → IsInCut n (below c r)
below_keeps c n r w h l =
    if_case (IsInCut n) (nat_eq c 0) None (up_to (c - 1) r) (λ e. let f : c ≡ 0 = eqb-true c 0 e in absurd (omega arith))
    (λ e. up_to_keeps (c - 1) n r w h (omega arith))

-- the test for members passes for each
pub contains_is : (n : ℕ) (r : Range) → IsIn n r → contains n r ≡ true
contains_is n r h =
    ap (λ b. b && nat_le n r.high && nat_eq (n % 2 ^ r.shift) 0) (le-leb r.low n h.from_low)
    ∙ ap (λ b. b && nat_eq (n % 2 ^ r.shift) 0) (le-leb n r.high h.to_high)
    ∙ eq-eqb (n % 2 ^ r.shift) 0 h.multiple

-- a member that is the number is kept by the cut to it
pub equal_keeps : (c n : ℕ) (r : Range) → IsIn n r → n ≡ c → IsInCut n (equal c r)
equal_keeps c n r h e =
    rw (← e) (if_case (IsInCut n) (contains n r) (Some (single n)) None (λ f. in_single n) (λ f. absurd (apart (contains n r) (contains_is n r h) f)))

-- a member that isn't the number is kept by the cut without it
pub unequal_keeps : (c n : ℕ) (r : Range) → IsRange r → IsIn n r → n ≢ c → IsInCut n (unequal c r)
unequal_keeps c n r w h other =
    let low : r.low ≤ n = h.from_low in
    let high : n ≤ r.high = h.to_high in
    if_case (IsInCut n) (nat_eq c r.low) (if nat_eq c r.high then None else Some (between (r.low + 2 ^ r.shift) r.high r.shift))
    (if nat_eq c r.high then Some (between r.low (r.high - 2 ^ r.shift) r.shift) else Some r)
    (λ e.
    let el : c ≡ r.low = eqb-true c r.low e in
    if_case (IsInCut n) (nat_eq c r.high) None (Some (between (r.low + 2 ^ r.shift) r.high r.shift))
    (λ f. let eh : c ≡ r.high = eqb-true c r.high f in absurd (other (omega arith)))
    (λ f. in_between (r.low + 2 ^ r.shift) r.high r.shift n (next_multiple r.shift r.low n w.formed.small w.formed.low_multiple h.multiple (strictly r.low n (λ s. other (s ∙ sym el)) low)) high h.multiple))
    (λ e.
    if_case (IsInCut n) (nat_eq c r.high) (Some (between r.low (r.high - 2 ^ r.shift) r.shift)) (Some r)
    (λ f.
    let eh : c ≡ r.high = eqb-true c r.high f in
    let room : n + 2 ^ r.shift ≤ r.high = next_multiple r.shift n r.high w.formed.small h.multiple w.formed.high_multiple (strictly n r.high (λ s. other (sym s ∙ sym eh)) high) in
    in_between r.low (r.high - 2 ^ r.shift) r.shift n low (omega arith) h.multiple)
    (λ f. h))

-- members for which the comparison has the answer are kept
pub cuts_keep : CutsKeep
cuts_keep Equal true c n r w h e = equal_keeps c n r h (eqb-true n c e)
cuts_keep Equal false c n r w h e = unequal_keeps c n r w h (eqb-false n c e)
cuts_keep NotEqual true c n r w h e = unequal_keeps c n r w h (differ n c e)
cuts_keep NotEqual false c n r w h e = equal_keeps c n r h (agree n c e)
cuts_keep Greater true c n r w h e = above_keeps c n r w h (ltb-true c n e)
cuts_keep Greater false c n r w h e = up_to_keeps c n r w h (ltb-false c n e)
cuts_keep GreaterOrEqual true c n r w h e = from_keeps c n r w h (leb-true c n e)
cuts_keep GreaterOrEqual false c n r w h e = below_keeps c n r w h (leb-false c n e)
cuts_keep Less true c n r w h e = below_keeps c n r w h (ltb-true n c e)
cuts_keep Less false c n r w h e = from_keeps c n r w h (ltb-false n c e)
cuts_keep LessOrEqual true c n r w h e = up_to_keeps c n r w h (leb-true n c e)
cuts_keep LessOrEqual false c n r w h e = above_keeps c n r w h (leb-false n c e)
cuts_keep o b c n r w h e = h

-- the next multiple above a number below the range's high is a 64-bit number
pub next_fits : (c : ℕ) (r : Range) → IsRange r → c < r.high → floor c r.shift + 2 ^ r.shift < 2 ^ 64
next_fits c r w l =
    let f : floor c r.shift ≤ c = floor_below c r.shift in
    let n = next_multiple r.shift (floor c r.shift) r.high w.formed.small (floor_multiple r.shift c w.formed.small) w.formed.high_multiple (lower (floor c r.shift) c r.high f l) in
    lower (floor c r.shift + 2 ^ r.shift) r.high (2 ^ 64) n w.fits

-- ---- cuts are ranges

greater_multiple : (a b s : ℕ) → a % 2 ^ s ≡ 0 → b % 2 ^ s ≡ 0 → max a b % 2 ^ s ≡ 0
greater_multiple a b s f g = by_less a b (λ l. let e : max a b ≡ b = omega arith in rw e g) (λ l. let e : max a b ≡ a = omega arith in rw e f)

lesser_multiple : (a b s : ℕ) → a % 2 ^ s ≡ 0 → b % 2 ^ s ≡ 0 → min a b % 2 ^ s ≡ 0
lesser_multiple a b s f g = by_less a b (λ l. let e : min a b ≡ a = omega arith in rw e f) (λ l. let e : min a b ≡ b = omega arith in rw e g)

least_lower : (a b c : ℕ) → a < c → min a b < c
least_lower a b c f = omega arith

-- the cut above a number leaves nothing, or a range
pub above_range : (c : ℕ) (r : Range) → IsRange r → IsCutRange (above c r)
above_range c r w =
    if_case IsCutRange (nat_lt c r.high) (Some (between (max r.low (floor c r.shift + 2 ^ r.shift)) r.high r.shift)) None
    (λ e.
    let l : c < r.high = ltb-true c r.high e in
    let n = next_multiple r.shift (floor c r.shift) r.high w.formed.small (floor_multiple r.shift c w.formed.small) w.formed.high_multiple (lower (floor c r.shift) c r.high (floor_below c r.shift) l) in
    between_range (max r.low (floor c r.shift + 2 ^ r.shift)) r.high r.shift (largest r.low (floor c r.shift + 2 ^ r.shift) r.high w.formed.ordered n) w.fits w.formed.small
    (greater_multiple r.low (floor c r.shift + 2 ^ r.shift) r.shift w.formed.low_multiple
    (multiples_added r.shift (floor c r.shift) (2 ^ r.shift) w.formed.small (floor_multiple r.shift c w.formed.small) (step_multiple r.shift w.formed.small))) w.formed.high_multiple)
    (λ e. tt)

-- the cut up to a number leaves nothing, or a range
pub up_to_range : (c : ℕ) (r : Range) → IsRange r → IsCutRange (up_to c r)
up_to_range c r w =
    if_case IsCutRange (nat_le r.low c) (Some (between r.low (min r.high (floor c r.shift)) r.shift)) None
    (λ e.
    between_range r.low (min r.high (floor c r.shift)) r.shift (least_of r.high (floor c r.shift) r.low w.formed.ordered (floor_greatest r.shift r.low c w.formed.small w.formed.low_multiple (leb-true r.low c e)))
    (least_lower r.high (floor c r.shift) (2 ^ 64) w.fits) w.formed.small w.formed.low_multiple (lesser_multiple r.high (floor c r.shift) r.shift w.formed.high_multiple (floor_multiple r.shift c w.formed.small)))
    (λ e. tt)

-- the cut from a number on leaves nothing, or a range
pub from_range : (c : ℕ) (r : Range) → IsRange r → IsCutRange (from c r)
from_range c r w = if_case IsCutRange (nat_eq c 0) (Some r) (above (c - 1) r) (λ e. w) (λ e. above_range (c - 1) r w)

-- the cut below a number leaves nothing, or a range
pub below_range : (c : ℕ) (r : Range) → IsRange r → IsCutRange (below c r)
below_range c r w = if_case IsCutRange (nat_eq c 0) None (up_to (c - 1) r) (λ e. tt) (λ e. up_to_range (c - 1) r w)

contained_below : (c : ℕ) (r : Range) → contains c r ≡ true → c ≤ r.high
contained_below c r e =
    let last = and_parts (nat_le r.low c && nat_le c r.high) (nat_eq (c % 2 ^ r.shift) 0) e in
    leb-true c r.high (and_parts (nat_le r.low c) (nat_le c r.high) last.0).1

-- the cut to a number leaves nothing, or a range
pub equal_range : (c : ℕ) (r : Range) → IsRange r → IsCutRange (equal c r)
equal_range c r w =
    if_case IsCutRange (contains c r) (Some (single c)) None
    (λ e. single_range c (lower c r.high (2 ^ 64) (contained_below c r e) w.fits)) (λ e. tt)

-- the cut without a number leaves nothing, or a range
pub unequal_range : (c : ℕ) (r : Range) → IsRange r → IsCutRange (unequal c r)
unequal_range c r w =
    if_case IsCutRange (nat_eq c r.low) (if nat_eq c r.high then None else Some (between (r.low + 2 ^ r.shift) r.high r.shift))
    (if nat_eq c r.high then Some (between r.low (r.high - 2 ^ r.shift) r.shift) else Some r)
    (λ e.
    if_case IsCutRange (nat_eq c r.high) None (Some (between (r.low + 2 ^ r.shift) r.high r.shift)) (λ f. tt)
    (λ f.
    let el : c ≡ r.low = eqb-true c r.low e in
    let room = next_multiple r.shift r.low r.high w.formed.small w.formed.low_multiple w.formed.high_multiple (strictly r.low r.high (λ s. eqb-false c r.high f (el ∙ sym s)) w.formed.ordered) in
    between_range (r.low + 2 ^ r.shift) r.high r.shift room w.fits w.formed.small (multiples_added r.shift r.low (2 ^ r.shift) w.formed.small w.formed.low_multiple (step_multiple r.shift w.formed.small)) w.formed.high_multiple))
    (λ e.
    if_case IsCutRange (nat_eq c r.high) (Some (between r.low (r.high - 2 ^ r.shift) r.shift)) (Some r)
    (λ f.
    let eh : c ≡ r.high = eqb-true c r.high f in
    let room : r.low + 2 ^ r.shift ≤ r.high = next_multiple r.shift r.low r.high w.formed.small w.formed.low_multiple w.formed.high_multiple (strictly r.low r.high (λ s. eqb-false c r.low e (eh ∙ s)) w.formed.ordered) in
    let top : r.high < 2 ^ 64 = w.fits in
    between_range r.low (r.high - 2 ^ r.shift) r.shift (omega arith) (omega arith) w.formed.small w.formed.low_multiple
    (multiples_taken r.shift r.high (2 ^ r.shift) w.formed.small (omega arith) w.formed.high_multiple (step_multiple r.shift w.formed.small)))
    (λ f. w))

-- what is left is a range
pub cuts_are_ranges : CutsAreRanges
cuts_are_ranges Equal true c r w = equal_range c r w
cuts_are_ranges Equal false c r w = unequal_range c r w
cuts_are_ranges NotEqual true c r w = unequal_range c r w
cuts_are_ranges NotEqual false c r w = equal_range c r w
cuts_are_ranges Greater true c r w = above_range c r w
cuts_are_ranges Greater false c r w = up_to_range c r w
cuts_are_ranges GreaterOrEqual true c r w = from_range c r w
cuts_are_ranges GreaterOrEqual false c r w = below_range c r w
cuts_are_ranges Less true c r w = below_range c r w
cuts_are_ranges Less false c r w = from_range c r w
cuts_are_ranges LessOrEqual true c r w = up_to_range c r w
cuts_are_ranges LessOrEqual false c r w = above_range c r w
cuts_are_ranges o b c r w = w

-- ---- nothing else is kept

max_left : (a b n : ℕ) → max a b ≤ n → a ≤ n
max_left a b n f = omega arith

max_right : (a b n : ℕ) → max a b ≤ n → b ≤ n
max_right a b n f = omega arith

min_left : (a b n : ℕ) → n ≤ min a b → n ≤ a
min_left a b n f = omega arith

min_right : (a b n : ℕ) → n ≤ min a b → n ≤ b
min_right a b n f = omega arith

less_through : (a b c : ℕ) → a < b → b ≤ c → a < c
less_through a b c f g = omega arith

-- the cut above a number has only members above it
pub above_only : (c n : ℕ) (r : Range) → IsRange r → IsInCut n (above c r) → IsIn n r × (c < n)
above_only c n r w =
    let next = floor c r.shift + 2 ^ r.shift in
    let m = greater_multiple r.low next r.shift w.formed.low_multiple (multiples_added r.shift (floor c r.shift) (2 ^ r.shift) w.formed.small (floor_multiple r.shift c w.formed.small) (step_multiple r.shift w.formed.small)) in
    if_case (λ q. IsInCut n q → IsIn n r × (c < n)) (nat_lt c r.high) (Some (between (max r.low next) r.high r.shift)) None
    (λ e h. (record { from_low = max_left r.low next n h.from_low; to_high = h.to_high; multiple = multiple_between (max r.low next) r.high r.shift n m h }, less_through c next n (floor_next r.shift c w.formed.small) (max_right r.low next n h.from_low)))
    (λ e h. absurd h)

through : (a b c : ℕ) → a ≤ b → b ≤ c → a ≤ c
through a b c f g = omega arith

-- the cut up to a number has only members that aren't above it
pub up_to_only : (c n : ℕ) (r : Range) → IsRange r → IsInCut n (up_to c r) → IsIn n r × (n ≤ c)
up_to_only c n r w =
    if_case (λ q. IsInCut n q → IsIn n r × (n ≤ c)) (nat_le r.low c) (Some (between r.low (min r.high (floor c r.shift)) r.shift)) None
    (λ e h. (record { from_low = h.from_low; to_high = min_left r.high (floor c r.shift) n h.to_high; multiple = multiple_between r.low (min r.high (floor c r.shift)) r.shift n w.formed.low_multiple h }, through n (floor c r.shift) c (min_right r.high (floor c r.shift) n h.to_high) (floor_below c r.shift)))
    (λ e h. absurd h)
