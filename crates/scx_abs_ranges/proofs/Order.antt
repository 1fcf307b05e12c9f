-- The order on ranges is inclusion, and the join is the least cover.
use Rattle.std.proofs.Common.{◌≡◌, ℕ, ◌+◌, ◌^◌, ◌<◌, ◌≤◌, min, max, refl, sym, ap, ◌∙◌, arith}
use Rattle.scx_abs_ranges.specs.declared.ranges.Range.{Range}
use Rattle.scx_abs_ranges.specs.Ranges.{IsIn, IsWellFormed, IsRange, CoversRange, trailing, join_ranges}
use Rattle.scx_abs_ranges.specs.Laws.{OrderIsInclusion, JoinIsLeastCover}
use Rattle.scx_abs_ranges.proofs.Multiples.{by_less, multiple_of_less, most_trailing, next_multiple, multiples_added, step_multiple, step_divides}

-- a range that covers another has each of its members
pub covers_in : (b a : Range) (n : ℕ) → CoversRange b a → IsIn n a → IsIn n b
covers_in b a n c h =
    let low : b.low ≤ a.low = c.low in
    let high : a.high ≤ b.high = c.high in
    let l : a.low ≤ n = h.from_low in
    let u : n ≤ a.high = h.to_high in
    record { from_low = omega arith; to_high = omega arith; multiple = multiple_of_less n a.shift b.shift c.shift h.multiple }

-- a range has its low end as a member
pub low_in : (a : Range) → IsWellFormed a → IsIn a.low a
low_in a w = record { from_low = omega arith; to_high = w.ordered; multiple = w.low_multiple }

-- a range has its high end as a member
pub high_in : (a : Range) → IsWellFormed a → IsIn a.high a
high_in a w = record { from_low = w.ordered; to_high = omega arith; multiple = w.high_multiple }

-- a range of several members has the one behind its low end
pub next_in : (a : Range) → IsWellFormed a → a.low < a.high → IsIn (a.low + 2 ^ a.shift) a
next_in a w l = record {
  from_low = omega arith;
  to_high = next_multiple a.shift a.low a.high w.small w.low_multiple w.high_multiple l;
  multiple = multiples_added a.shift a.low (2 ^ a.shift) w.small w.low_multiple (step_multiple a.shift w.small);
}

-- a well-formed range that has all members of another covers it
pub members_cover : (b a : Range) → IsWellFormed b → IsWellFormed a → ((n : ℕ) → IsIn n a → IsIn n b) → CoversRange b a
members_cover b a wb wa f =
    let low = f a.low (low_in a wa) in
    let high = f a.high (high_in a wa) in
    record {
      low = low.from_low;
      high = high.to_high;
      shift =
          by_less a.low a.high
          (λ l. let next = f (a.low + 2 ^ a.shift) (next_in a wa l) in step_divides a.low a.shift b.shift wa.small wb.small low.multiple next.multiple)
          (λ l. let o : a.low ≤ a.high = wa.ordered in let same : a.low ≡ a.high = omega arith in rw (wa.greatest same) (most_trailing a.low b.shift wb.small low.multiple));
    }

-- a range that has all members of another covers it
pub in_covers : (b a : Range) → IsRange b → IsRange a → ((n : ℕ) → IsIn n a → IsIn n b) → CoversRange b a
in_covers b a wb wa f = members_cover b a wb.formed wa.formed f

-- one range covers another exactly where it has all of its members
pub order_is_inclusion : OrderIsInclusion
order_is_inclusion b a wb wa = (λ c n. covers_in b a n c, in_covers b a wb wa)

least_of : (a b t : ℕ) → a ≡ t → b ≡ t → min a b ≡ a
least_of a b t e f = omega arith

-- a join of ranges is one
pub join_formed : (a b : Range) → IsWellFormed a → IsWellFormed b → IsWellFormed (join_ranges a b)
join_formed a b wa wb =
    let oa : a.low ≤ a.high = wa.ordered in
    let ob : b.low ≤ b.high = wb.ordered in
    let sa : a.shift ≤ 3 = wa.small in
    let sb : b.shift ≤ 3 = wb.small in
    record {
      ordered = omega arith;
      small = omega arith;
      low_multiple =
          by_less a.low b.low
          (λ l. let e : min a.low b.low ≡ a.low = omega arith in rw e (multiple_of_less a.low a.shift (min a.shift b.shift) (omega arith) wa.low_multiple))
          (λ l. let e : min a.low b.low ≡ b.low = omega arith in rw e (multiple_of_less b.low b.shift (min a.shift b.shift) (omega arith) wb.low_multiple));
      high_multiple =
          by_less a.high b.high
          (λ l. let e : max a.high b.high ≡ b.high = omega arith in rw e (multiple_of_less b.high b.shift (min a.shift b.shift) (omega arith) wb.high_multiple))
          (λ l. let e : max a.high b.high ≡ a.high = omega arith in rw e (multiple_of_less a.high a.shift (min a.shift b.shift) (omega arith) wa.high_multiple));
      greatest =
          λ e.
          let la : a.low ≡ a.high = omega arith in
          let same : b.low ≡ a.low = omega arith in
          let lb : b.low ≡ b.high = omega arith in
          let ta : a.shift ≡ trailing a.low = wa.greatest la in
          let tb : b.shift ≡ trailing a.low = wb.greatest lb ∙ ap trailing same in
          let low : min a.low b.low ≡ a.low = omega arith in
          let shifts : min a.shift b.shift ≡ a.shift = least_of a.shift b.shift (trailing a.low) ta tb in
          shifts ∙ ta ∙ ap trailing (sym low);
    }

join_range : (a b : Range) → IsRange a → IsRange b → IsRange (join_ranges a b)
join_range a b wa wb =
    let fa : a.high < 2 ^ 64 = wa.fits in
    let fb : b.high < 2 ^ 64 = wb.fits in
    record { formed = join_formed a b wa.formed wb.formed; fits = omega arith }

-- the join of two ranges is the least range that covers both
pub join_is_least_cover : JoinIsLeastCover
join_is_least_cover a b wa wb = record {
  range = join_range a b wa wb;
  covers_first = record { low = omega arith; high = omega arith; shift = omega arith };
  covers_second = record { low = omega arith; high = omega arith; shift = omega arith };
  least =
      λ c f g.
      let l : c.low ≤ a.low = f.low in
      let m : c.low ≤ b.low = g.low in
      let h : a.high ≤ c.high = f.high in
      let i : b.high ≤ c.high = g.high in
      let s : c.shift ≤ a.shift = f.shift in
      let t : c.shift ≤ b.shift = g.shift in
      record { low = omega arith; high = omega arith; shift = omega arith };
}

-- ---- a range joined with itself

least_same : (n : ℕ) → min n n ≡ n
least_same n = omega arith

greatest_same : (n : ℕ) → max n n ≡ n
greatest_same n = omega arith

-- a range joined with itself stays
pub join_same : (r : Range) → join_ranges r r ≡ r
join_same r = rw (least_same r.low, greatest_same r.high, least_same r.shift) refl
