-- The part of a run that the columns of a picture show.
use Rattle.std.specs.Prelude.{◌≡◌, ℕ, ◌+◌, ◌-◌, ◌*◌, ◌<◌, ◌≤◌, max}
use Rattle.scxsim_layout.specs.declared.scales.Scale.{Scale}

-- the columns of a scale, all of them equally long, cover that part of a run (one of no
-- milliseconds as if it had one), and each of them begins within it
abbrev pub Covers : ℕ → ℕ → Scale → Type 0
Covers from to scale =
    (scale.from ≡ from) × (scale.to ≡ to)
    × (max (to - from) 1 ≤ scale.columns * scale.step)
    × (scale.columns * scale.step < max (to - from) 1 + scale.step)
