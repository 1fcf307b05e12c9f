-- Numbers keep each range, and what they keep is one.
use Rattle.std.proofs.Common.{◌≡◌, ℕ, ◌^◌, ◌<◌, ◌≤◌, Bool, true, false, nat_eq, if◌then◌else◌, refl, sym, ap, subst, ◌∙◌}
use Rattle.std.proofs.lemmas.Bool.{eqb-true, eqb-false, eq-eqb}
use Rattle.scx_abs_ranges.specs.declared.ranges.Range.{Range}
use Rattle.scx_abs_ranges.specs.declared.steps.Step.{Step}
use Rattle.scx_abs_ranges.specs.declared.steps.Step.TheVariants.{One}
use Rattle.scx_abs_ranges.specs.Ranges.{IsRange, single, trailing}
use Rattle.scx_abs_ranges.specs.Steps.{shift_of, step_of}
use Rattle.scx_abs_ranges.specs.Kept.{IsKeptRange, range_of, kept_step}
use Rattle.scx_abs_ranges.proofs.Multiples.{by_shift, if_case, single_range}

shift_back : (b : Bool) (t s : ℕ) → s ≤ 3 → (b ≡ true → s ≡ t) → (if b then t else shift_of (if b then One else step_of s)) ≡ s
shift_back true t s l h = sym (h refl)
shift_back false t s l h = by_shift (λ s. shift_of (step_of s) ≡ s) refl refl refl refl s l

-- a range is that of its ends and the step that is kept
pub kept_range : (r : Range) → IsRange r → range_of r.low r.high (kept_step r) ≡ r
kept_range r w =
    ap (λ s. record { low = r.low; high = r.high; shift = s })
    (shift_back (nat_eq r.low r.high) (trailing r.low) r.shift w.formed.small (λ e. w.formed.greatest (eqb-true r.low r.high e)))

-- a range may be kept by its ends and its step
pub kept_parts : (r : Range) → IsRange r → IsKeptRange r.low r.high (kept_step r)
kept_parts r w = record { range = subst IsRange (sym (kept_range r w)) w; back = ap kept_step (kept_range r w) }

-- a 64-bit number is kept as a range of two same ends with the step One
pub kept_single : (n : ℕ) → n < 2 ^ 64 → IsKeptRange n n One
kept_single n l = record {
  range = single_range n l;
  back = if_case (λ s. s ≡ One) (nat_eq n n) One (step_of (if nat_eq n n then trailing n else 0)) (λ e. refl) (λ e. absurd (eqb-false n n e refl));
}

-- what has one number alone is that number, whatever step is kept
pub single_is : (l h : ℕ) (s : Step) → l ≡ h → range_of l h s ≡ single l
single_is l h s e =
    let same = eq-eqb l l refl in
    subst (λ h. range_of l h s ≡ single l) e
    (ap (λ b. record { low = l; high = l; shift = if b then trailing l else shift_of s }) same
    ∙ sym (ap (λ b. record { low = l; high = l; shift = if b then trailing l else 0 }) same))
