-- Parts of a run in hundredths of a percent, rounded down.
use Rattle.std.specs.Prelude.{ℕ, ◌*◌, ◌/◌, ◌^◌, ◌==◌, if◌then◌else◌}
use Rattle.scxsim_views.specs.Lengths.{at_most_64_bits}

-- a part of a whole; 0 of nothing
abbrev pub percent : ℕ → ℕ → ℕ
percent part whole = if whole == 0 then 0 else at_most_64_bits (part * 10000) / whole

-- what was due, in parts of 10^28 of a millisecond, of `total` milliseconds in all; 0 of none
abbrev pub due_percent : ℕ → ℕ → ℕ
due_percent due total = if total == 0 then 0 else at_most_64_bits (due / 10 ^ 24 / total)
