-- Moves of ranges of offsets keep offsets and are monotone; the checks of an access are those of each
-- offset.
use Rattle.std.proofs.Common.{◌≡◌, ◌≢◌, ℕ, suc, ◌+◌, ◌-◌, ◌%◌, ◌^◌, ◌<◌, ◌≤◌, ℤ, pos, negsuc, unsigned_abs, min, Bool, true, false, ◌||◌, nat_eq, nat_le, nat_lt, Option, Some, None, is_some, if◌then◌else◌, refl, sym, ap, subst, ◌∙◌, arith}
use Rattle.std.proofs.lemmas.Bool.{eqb-true, eqb-false, ltb-true, leb-true, and_parts, and_from, le-leb, lt-ltb, eq-eqb}
use Rattle.scx_isa_semantics.specs.declared.operations.Size.TheVariants as size
use Rattle.scx_isa_semantics.specs.Arithmetic.{at_distance}
use Rattle.scx_isa_semantics.specs.Memory.{within, size_bytes}
use Rattle.scx_abs_ranges.specs.declared.ranges.Range.{Range}
use Rattle.scx_abs_ranges.specs.Ranges.{IsIn, IsWellFormed, CoversRange, trailing, between, is_single}
use Rattle.scx_abs_ranges.specs.Offsets.{between_some, offsets_plus_constant, offsets_plus_range, ends_within, are_inside, is_multiple, are_aligned}
use Rattle.scx_abs_ranges.specs.OffsetLaws.{IsMoved, IsAdvanced, IsInElement, PassesMove, MovesAreSound, MovesAreExact, MovesStayWithin, MovesAreMonotone, AdvancesAreSound, AdvancesAreExact, AdvancesStayWithin, AdvancesAreMonotone, AllInside, AllAligned, InsideIsExact, AlignedIsExact, AccessesAreMonotone}
use Rattle.scx_abs_ranges.proofs.Multiples.{by_bool, by_shift, if_case, in_between, multiple_between, between_formed, multiples_added, multiples_taken, multiple_of_less, trailing_divides}
use Rattle.scx_abs_ranges.proofs.Order.{covers_in, members_cover, low_in, high_in, next_in}
use Rattle.scx_abs_ranges.proofs.KeptByCuts.{strictly}

-- ---- offsets that far on

some_is : (x y : ℕ) → Some x ≡ Some y → x ≡ y
some_is x y e = cc

none_is : {P : Type 0} (y : ℕ) → None ≡ Some y → P
none_is y e = absurd (cc)

fewer : (n k x : ℕ) → at_distance n (negsuc k) ≡ Some x → (k < n) × (x ≡ n - suc k)
fewer n k x = go (nat_lt k n) refl
  where
    go : (b : Bool) → nat_lt k n ≡ b → (if b then Some (n - suc k) else None) ≡ Some x → (k < n) × (x ≡ n - suc k)
    go true e f = (ltb-true k n e, sym (some_is (n - suc k) x f))
    go false e f = none_is x f

reached : (n k : ℕ) → k < n → at_distance n (negsuc k) ≡ Some (n - suc k)
reached n k l = ap (λ b. if b then Some (n - suc k) else None) (lt-ltb k n l)

-- a greater offset has one too, greater by as much
shift_up : (n m x : ℕ) (k : ℤ) → n ≤ m → at_distance n k ≡ Some x → at_distance m k ≡ Some (x + (m - n))
shift_up n m x (pos k) l e = let here : n + k ≡ x = some_is (n + k) x e in ap Some (omega arith)
shift_up n m x (negsuc k) l e =
    let f = fewer n k x e in
    let less : k < n = f.0 in
    let here : x ≡ n - suc k = f.1 in
    reached m k (omega arith) ∙ ap Some (omega arith)

shift_gap : (n m x y : ℕ) (k : ℤ) → n ≤ m → at_distance n k ≡ Some x → at_distance m k ≡ Some y → y ≡ x + (m - n)
shift_gap n m x y k l e f = some_is y (x + (m - n)) (sym f ∙ shift_up n m x k l e)

shift_order : (n m x y : ℕ) (k : ℤ) → n ≤ m → at_distance n k ≡ Some x → at_distance m k ≡ Some y → x ≤ y
shift_order n m x y k l e f = let gap = shift_gap n m x y k l e f in omega arith

min_left : (a b : ℕ) → min a b ≤ a
min_left a b = omega arith

min_right : (a b : ℕ) → min a b ≤ b
min_right a b = omega arith

min_small : (a b : ℕ) → a ≤ 3 → min a b ≤ 3
min_small a b l = omega arith

shift_multiple : (a n x : ℕ) (k : ℤ) → a ≤ 3 → n % 2 ^ a ≡ 0 → at_distance n k ≡ Some x → x % 2 ^ min a (trailing (unsigned_abs k)) ≡ 0
shift_multiple a n x (pos k) l m e =
    let s = min a (trailing k) in
    subst (λ y. y % 2 ^ s ≡ 0) (some_is (n + k) x e)
    (multiples_added s n k (min_small a (trailing k) l) (multiple_of_less n a s (min_left a (trailing k)) m) (multiple_of_less k (trailing k) s (min_right a (trailing k)) (trailing_divides k)))
shift_multiple a n x (negsuc k) l m e =
    let s = min a (trailing (suc k)) in
    let f = fewer n k x e in
    let less : k < n = f.0 in
    subst (λ y. y % 2 ^ s ≡ 0) (sym f.1)
    (multiples_taken s n (suc k) (min_small a (trailing (suc k)) l) (omega arith) (multiple_of_less n a s (min_left a (trailing (suc k))) m) (multiple_of_less (suc k) (trailing (suc k)) s (min_right a (trailing (suc k))) (trailing_divides (suc k))))

-- ---- in the element

within_one : (size x y : ℕ) → within size (Some x) ≡ Some y → (Some x ≡ Some y) × (y ≤ size)
within_one size x y = go (nat_le x size) refl
  where
    go : (b : Bool) → nat_le x size ≡ b → (if b then Some x else None) ≡ Some y → (Some x ≡ Some y) × (y ≤ size)
    go true e f = (f, subst (λ z. z ≤ size) (some_is x y f) (leb-true x size e))
    go false e f = none_is y f

within_is : (size : ℕ) (o : Option ℕ) (y : ℕ) → within size o ≡ Some y → (o ≡ Some y) × (y ≤ size)
within_is size None y e = none_is y e
within_is size (Some x) y e = within_one size x y e

to_within : (size x : ℕ) (o : Option ℕ) → o ≡ Some x → x ≤ size → within size o ≡ Some x
to_within size x o e l = ap (within size) e ∙ ap (λ b. if b then Some x else None) (le-leb x size l)

-- ---- moves by a constant

moved_is : (size : ℕ) (r : Range) (k : ℤ) (lo hi : ℕ) → at_distance r.low k ≡ Some lo → within size (at_distance r.high k) ≡ Some hi
    → offsets_plus_constant size r k ≡ Some (between lo hi (min r.shift (trailing (unsigned_abs k))))
moved_is size r k lo hi e f =
    ap (λ x. between_some x (within size (at_distance r.high k)) (min r.shift (trailing (unsigned_abs k)))) e
    ∙ ap (λ y. between_some (Some lo) y (min r.shift (trailing (unsigned_abs k)))) f

moved_case : (P : Option Range → Type 0) (size : ℕ) (r : Range) (k : ℤ) → P None
    → ((lo hi : ℕ) → at_distance r.low k ≡ Some lo → within size (at_distance r.high k) ≡ Some hi → P (Some (between lo hi (min r.shift (trailing (unsigned_abs k))))))
    → P (offsets_plus_constant size r k)
moved_case P size r k none some = go (at_distance r.low k) (within size (at_distance r.high k)) refl refl
  where
    go : (x y : Option ℕ) → at_distance r.low k ≡ x → within size (at_distance r.high k) ≡ y → P (between_some x y (min r.shift (trailing (unsigned_abs k))))
    go None y e f = none
    go (Some lo) None e f = none
    go (Some lo) (Some hi) e f = some lo hi e f

-- each offset is kept
pub moves_are_sound : MovesAreSound
moves_are_sound size r k n w h =
    moved_case (IsMoved size n k) size r k tt
    (λ lo hi e f.
    let s = min r.shift (trailing (unsigned_abs k)) in
    let top = within_is size (at_distance r.high k) hi f in
    let here = shift_up r.low n lo k h.from_low e in
    let low = shift_order r.low n lo (lo + (n - r.low)) k h.from_low e here in
    let high : lo + (n - r.low) ≤ hi = shift_order n r.high (lo + (n - r.low)) hi k h.to_high here top.0 in
    let end : hi ≤ size = top.1 in
    (lo + (n - r.low), to_within size (lo + (n - r.low)) (at_distance n k) here (omega arith), in_between lo hi s (lo + (n - r.low)) low high (shift_multiple r.shift n (lo + (n - r.low)) k w.small h.multiple here)))

moved_formed : (r : Range) (k : ℤ) (lo hi : ℕ) → IsWellFormed r → at_distance r.low k ≡ Some lo → at_distance r.high k ≡ Some hi
    → IsWellFormed (between lo hi (min r.shift (trailing (unsigned_abs k))))
moved_formed r k lo hi w e f =
    between_formed lo hi (min r.shift (trailing (unsigned_abs k))) (shift_order r.low r.high lo hi k w.ordered e f) (min_small r.shift (trailing (unsigned_abs k)) w.small)
    (shift_multiple r.shift r.low lo k w.small w.low_multiple e) (shift_multiple r.shift r.high hi k w.small w.high_multiple f)

-- offsets that were moved by a constant are a range in the element, or up to its end
pub moves_stay_within : MovesStayWithin
moves_stay_within size r k w =
    moved_case (IsInElement size) size r k tt
    (λ lo hi e f. let top = within_is size (at_distance r.high k) hi f in (moved_formed r k lo hi w e top.0, top.1))

-- between two numbers is covered between two that are further apart
between_covers : (lo' lo hi hi' s' s : ℕ) → IsWellFormed (between lo' hi' s') → IsWellFormed (between lo hi s) → lo' ≤ lo → hi ≤ hi' → s' ≤ s → lo % 2 ^ s ≡ 0
    → CoversRange (between lo' hi' s') (between lo hi s)
between_covers lo' lo hi hi' s' s wb wa l h c m =
    members_cover (between lo' hi' s') (between lo hi s) wb wa
    (λ x g.
    let from_low : lo ≤ x = g.from_low in
    let to_high : x ≤ hi = g.to_high in
    in_between lo' hi' s' x (omega arith) (omega arith) (multiple_of_less x s s' c (multiple_between lo hi s x m g)))

mins_grow : (a a' b : ℕ) → a ≤ a' → min a b ≤ min a' b
mins_grow a a' b f = omega arith

-- where offsets may be moved by a constant, fewer may too, and what they give is covered
pub moves_are_monotone : MovesAreMonotone
moves_are_monotone size b a k wb wa c =
    moved_case (λ q. PassesMove q (offsets_plus_constant size a k)) size b k tt
    (λ lo hi e f.
    let t = trailing (unsigned_abs k) in
    let top = within_is size (at_distance b.high k) hi f in
    let end : hi ≤ size = top.1 in
    let ordered : a.low ≤ a.high = wa.ordered in
    let low : b.low ≤ a.low = c.low in
    let first = shift_up b.low a.low lo k low e in
    let last = shift_up b.low a.high lo k (omega arith) e in
    let lower = shift_order b.low a.low lo (lo + (a.low - b.low)) k low e first in
    let upper : lo + (a.high - b.low) ≤ hi = shift_order a.high b.high (lo + (a.high - b.low)) hi k c.high last top.0 in
    let within_size : lo + (a.high - b.low) ≤ size = omega arith in
    subst (PassesMove (Some (between lo hi (min b.shift t)))) (sym (moved_is size a k (lo + (a.low - b.low)) (lo + (a.high - b.low)) first (to_within size (lo + (a.high - b.low)) (at_distance a.high k) last within_size)))
    (between_covers lo (lo + (a.low - b.low)) (lo + (a.high - b.low)) hi (min b.shift t) (min a.shift t) (moved_formed b k lo hi wb e top.0)
    (moved_formed a k (lo + (a.low - b.low)) (lo + (a.high - b.low)) wa first last) lower upper (mins_grow b.shift a.shift t c.shift)
    (shift_multiple a.shift a.low (lo + (a.low - b.low)) k wa.small wa.low_multiple first)))

-- ---- moves by numbers

sum_multiple : (a b n m : ℕ) → a ≤ 3 → n % 2 ^ a ≡ 0 → m % 2 ^ b ≡ 0 → (n + m) % 2 ^ min a b ≡ 0
sum_multiple a b n m l f g =
    multiples_added (min a b) n m (min_small a b l) (multiple_of_less n a (min a b) (min_left a b) f) (multiple_of_less m b (min a b) (min_right a b) g)

-- each sum is kept
pub advances_are_sound : AdvancesAreSound
advances_are_sound size r s n m wr ws h g =
    if_case (IsAdvanced size (n + m)) (nat_le (r.high + s.high) size) (Some (between (r.low + s.low) (r.high + s.high) (min r.shift s.shift))) None
    (λ e.
    let fits : r.high + s.high ≤ size = leb-true (r.high + s.high) size e in
    let a : r.low ≤ n = h.from_low in
    let b : n ≤ r.high = h.to_high in
    let c : s.low ≤ m = g.from_low in
    let d : m ≤ s.high = g.to_high in
    (omega arith, in_between (r.low + s.low) (r.high + s.high) (min r.shift s.shift) (n + m) (omega arith) (omega arith) (sum_multiple r.shift s.shift n m wr.small h.multiple g.multiple)))
    (λ e. tt)

advanced_formed : (r s : Range) → IsWellFormed r → IsWellFormed s → IsWellFormed (between (r.low + s.low) (r.high + s.high) (min r.shift s.shift))
advanced_formed r s wr ws =
    let a : r.low ≤ r.high = wr.ordered in
    let b : s.low ≤ s.high = ws.ordered in
    between_formed (r.low + s.low) (r.high + s.high) (min r.shift s.shift) (omega arith) (min_small r.shift s.shift wr.small)
    (sum_multiple r.shift s.shift r.low s.low wr.small wr.low_multiple ws.low_multiple) (sum_multiple r.shift s.shift r.high s.high wr.small wr.high_multiple ws.high_multiple)

-- offsets that were moved by a range of numbers are a range in the element, or up to its end
pub advances_stay_within : AdvancesStayWithin
advances_stay_within size r s wr ws =
    if_case (IsInElement size) (nat_le (r.high + s.high) size) (Some (between (r.low + s.low) (r.high + s.high) (min r.shift s.shift))) None
    (λ e. (advanced_formed r s wr ws, leb-true (r.high + s.high) size e)) (λ e. tt)

least_grow : (a b c d : ℕ) → a ≤ c → b ≤ d → min a b ≤ min c d
least_grow a b c d f g = omega arith

-- where offsets may be moved by a range of numbers, fewer may by fewer; what they give is covered
pub advances_are_monotone : AdvancesAreMonotone
advances_are_monotone size b d a c wb wd wa wc f g =
    let lows : b.low ≤ a.low = f.low in
    let more_lows : d.low ≤ c.low = g.low in
    let highs : a.high ≤ b.high = f.high in
    let more_highs : c.high ≤ d.high = g.high in
    if_case (λ q. PassesMove q (offsets_plus_range size a c)) (nat_le (b.high + d.high) size) (Some (between (b.low + d.low) (b.high + d.high) (min b.shift d.shift))) None
    (λ e.
    let l : b.high + d.high ≤ size = leb-true (b.high + d.high) size e in
    let m : a.high + c.high ≤ size = omega arith in
    subst (PassesMove (Some (between (b.low + d.low) (b.high + d.high) (min b.shift d.shift))))
    (sym (ap (λ t. if t then Some (between (a.low + c.low) (a.high + c.high) (min a.shift c.shift)) else None) (le-leb (a.high + c.high) size m)))
    (between_covers (b.low + d.low) (a.low + c.low) (a.high + c.high) (b.high + d.high) (min b.shift d.shift) (min a.shift c.shift) (advanced_formed b d wb wd) (advanced_formed a c wa wc)
    (omega arith) (omega arith) (least_grow b.shift d.shift a.shift c.shift f.shift g.shift) (sum_multiple a.shift c.shift a.low c.low wa.small wa.low_multiple wc.low_multiple)))
    (λ e. tt)

-- ---- moves are refused only where an offset leaves the element

-- there is a range where each offset stays in the element
pub moves_are_exact : MovesAreExact
moves_are_exact size r k w f =
    let first = f r.low (low_in r w) in
    let last = f r.high (high_in r w) in
    let there = within_is size (at_distance r.low k) first.0 first.1 in
    ap is_some (moved_is size r k first.0 last.0 there.0 last.1)

-- there is a range where each sum stays in the element
pub advances_are_exact : AdvancesAreExact
advances_are_exact size r s wr ws f =
    ap (λ b. is_some (if b then Some (between (r.low + s.low) (r.high + s.high) (min r.shift s.shift)) else None)) (le-leb (r.high + s.high) size (f r.high s.high (high_in r wr) (high_in s ws)))

-- ---- accesses lie in the element

some_of : (o : Option ℕ) → is_some o ≡ true → (x : ℕ) × (o ≡ Some x)
some_of None e = absurd (cc)
some_of (Some x) e = (x, refl)

end_of : (size n : ℕ) (o : Option ℕ) → ends_within size n o ≡ true → (x : ℕ) × (o ≡ Some x) × (x + n ≤ size)
end_of size n None e = absurd (cc)
end_of size n (Some x) e = (x, refl, leb-true (x + n) size e)

inside_all : (size n : ℕ) (r : Range) (k : ℤ) → are_inside size n r k ≡ true → AllInside size n r k
inside_all size n r k e at h =
    let both = and_parts (is_some (at_distance r.low k)) (ends_within size n (at_distance r.high k)) e in
    let first = some_of (at_distance r.low k) both.0 in
    let last = end_of size n (at_distance r.high k) both.1 in
    let here = shift_up r.low at first.0 k h.from_low first.1 in
    let less : first.0 + (at - r.low) ≤ last.0 = shift_order at r.high (first.0 + (at - r.low)) last.0 k h.to_high here last.1 in
    let end : last.0 + n ≤ size = last.2 in
    (first.0 + (at - r.low), record { there = here; inside = omega arith })

all_inside : (size n : ℕ) (r : Range) (k : ℤ) → IsWellFormed r → AllInside size n r k → are_inside size n r k ≡ true
all_inside size n r k w f =
    let first = f r.low (low_in r w) in
    let last = f r.high (high_in r w) in
    and_from (is_some (at_distance r.low k)) (ends_within size n (at_distance r.high k)) (ap is_some first.1.there)
    (ap (ends_within size n) last.1.there ∙ le-leb (last.0 + n) size last.1.inside)

-- what is tested is that of each offset
pub inside_is_exact : InsideIsExact
inside_is_exact size n r k w = (inside_all size n r k, all_inside size n r k w)

-- ---- accesses are aligned

multiple_of : (n : ℕ) (o : Option ℕ) → is_multiple n o ≡ true → (x : ℕ) × (o ≡ Some x) × (x % n ≡ 0)
multiple_of n None e = absurd (cc)
multiple_of n (Some x) e = (x, refl, eqb-true (x % n) 0 e)

either : {P : Type 0} (x y : Bool) → (x || y) ≡ true → (x ≡ true → P) → (x ≡ false → y ≡ true → P) → P
either true y e f g = f refl
either false y e f g = g refl e

either_first : (x y : Bool) → x ≡ true → (x || y) ≡ true
either_first x y e = rw e refl

either_second : (x y : Bool) → y ≡ true → (x || y) ≡ true
either_second true y e = refl
either_second false y e = e

-- where a step is a multiple, it is of a greater power
step_at_least : (t a : ℕ) → t ≤ 3 → a ≤ 3 → 2 ^ a % 2 ^ t ≡ 0 → t ≤ a
step_at_least t a l m =
    by_shift (λ t. 2 ^ a % 2 ^ t ≡ 0 → t ≤ a)
    (λ e. omega arith)
    (by_shift (λ a. 2 ^ a % 2 ^ 1 ≡ 0 → 1 ≤ a) (λ e. absurd (cc)) (λ e. omega arith) (λ e. omega arith) (λ e. omega arith) a m)
    (by_shift (λ a. 2 ^ a % 2 ^ 2 ≡ 0 → 2 ≤ a) (λ e. absurd (cc)) (λ e. absurd (cc)) (λ e. omega arith) (λ e. omega arith) a m)
    (by_shift (λ a. 2 ^ a % 2 ^ 3 ≡ 0 → 3 ≤ a) (λ e. absurd (cc)) (λ e. absurd (cc)) (λ e. absurd (cc)) (λ e. omega arith) a m) t l

single_here : (r : Range) (at : ℕ) → is_single r ≡ true → IsIn at r → at ≡ r.low
single_here r at e h =
    let same : r.low ≡ r.high = eqb-true r.low r.high e in
    let l : r.low ≤ at = h.from_low in
    let u : at ≤ r.high = h.to_high in
    omega arith

aligned_all : (t : ℕ) (r : Range) (k : ℤ) → t ≤ 3 → IsWellFormed r → are_aligned (2 ^ t) r k ≡ true → AllAligned (2 ^ t) r k
aligned_all t r k l w e at h =
    let both = and_parts (is_multiple (2 ^ t) (at_distance r.low k)) (is_single r || nat_eq (2 ^ r.shift % 2 ^ t) 0) e in
    let first = multiple_of (2 ^ t) (at_distance r.low k) both.0 in
    let here = shift_up r.low at first.0 k h.from_low first.1 in
    let low : r.low ≤ at = h.from_low in
    let gap : (at - r.low) % 2 ^ t ≡ 0
    = either (is_single r) (nat_eq (2 ^ r.shift % 2 ^ t) 0) both.1
    (λ f. let same = single_here r at f h in let none : at - r.low ≡ 0 = omega arith in subst (λ d. d % 2 ^ t ≡ 0) (sym none) (by_shift (λ t. 0 % 2 ^ t ≡ 0) refl refl refl refl t l))
    (λ f g. multiple_of_less (at - r.low) r.shift t (step_at_least t r.shift l w.small (eqb-true (2 ^ r.shift % 2 ^ t) 0 g)) (multiples_taken r.shift at r.low w.small low h.multiple w.low_multiple)) in
    (first.0 + (at - r.low), here, multiples_added t first.0 (at - r.low) l first.2 gap)

all_aligned : (t : ℕ) (r : Range) (k : ℤ) → t ≤ 3 → IsWellFormed r → AllAligned (2 ^ t) r k → are_aligned (2 ^ t) r k ≡ true
all_aligned t r k l w f =
    let first = f r.low (low_in r w) in
    and_from (is_multiple (2 ^ t) (at_distance r.low k)) (is_single r || nat_eq (2 ^ r.shift % 2 ^ t) 0)
    (ap (is_multiple (2 ^ t)) first.1 ∙ eq-eqb (first.0 % 2 ^ t) 0 first.2)
    (by_bool (is_single r) (λ e. either_first (is_single r) (nat_eq (2 ^ r.shift % 2 ^ t) 0) e)
    (λ e.
    let apart : r.low ≢ r.high = eqb-false r.low r.high e in
    let second = f (r.low + 2 ^ r.shift) (next_in r w (strictly r.low r.high (λ s. apart (sym s)) w.ordered)) in
    let gap : second.0 ≡ first.0 + (r.low + 2 ^ r.shift - r.low) = shift_gap r.low (r.low + 2 ^ r.shift) first.0 second.0 k (omega arith) first.1 second.1 in
    let whole : second.0 - first.0 ≡ 2 ^ r.shift = omega arith in
    either_second (is_single r) (nat_eq (2 ^ r.shift % 2 ^ t) 0)
    (eq-eqb (2 ^ r.shift % 2 ^ t) 0 (subst (λ d. d % 2 ^ t ≡ 0) whole (multiples_taken t second.0 first.0 l (omega arith) second.2 first.2)))))

-- the test of alignment passes exactly where each of the offsets is a multiple of an access's bytes
pub aligned_is_exact : AlignedIsExact
aligned_is_exact size.Byte r k w = (aligned_all 0 r k (omega arith) w, all_aligned 0 r k (omega arith) w)
aligned_is_exact size.HalfWord r k w = (aligned_all 1 r k (omega arith) w, all_aligned 1 r k (omega arith) w)
aligned_is_exact size.Word r k w = (aligned_all 2 r k (omega arith) w, all_aligned 2 r k (omega arith) w)
aligned_is_exact size.DoubleWord r k w = (aligned_all 3 r k (omega arith) w, all_aligned 3 r k (omega arith) w)

-- what passes for a range passes for each that it covers
pub accesses_are_monotone : AccessesAreMonotone
accesses_are_monotone size s b a k wb wa c =
    let inside = inside_is_exact size (size_bytes s) in
    let aligned = aligned_is_exact s in
    (λ e. (inside a k wa).1 (λ at h. (inside b k wb).0 e at (covers_in b a at c h)), λ e. (aligned a k wa).1 (λ at h. (aligned b k wb).0 e at (covers_in b a at c h)))
