-- How numbers keep a range: by its ends, and by its step where it has several numbers.
use Rattle.std.specs.Prelude.{ℕ, ◌≡◌, nat_eq, if◌then◌else◌}
use Rattle.scx_abs_ranges.specs.declared.ranges.Range.{Range}
use Rattle.scx_abs_ranges.specs.declared.steps.Step.{Step}
use Rattle.scx_abs_ranges.specs.declared.steps.Step.TheVariants.{One}
use Rattle.scx_abs_ranges.specs.Ranges.{IsRange, between}
use Rattle.scx_abs_ranges.specs.Steps.{shift_of, step_of}

-- the range that is kept so
abbrev pub range_of : ℕ → ℕ → Step → Range
range_of low high step = between low high (shift_of step)

-- the step that is kept of a range
abbrev pub kept_step : Range → Step
kept_step r = if nat_eq r.low r.high then One else step_of r.shift

-- what is kept is a range, and no other step means the same
pub record IsKeptRange (low high : ℕ) (step : Step) : Type 0 where
  pub range : IsRange (range_of low high step)
  pub back : kept_step (range_of low high step) ≡ step
