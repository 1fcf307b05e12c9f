-- The part of a whole by weight.
use Rattle.std.specs.Prelude.{ℕ, ◌+◌, ◌-◌, ◌*◌, ◌/◌, ◌==◌, if◌then◌else◌}

-- what a weight has of a whole by a sum of weights, rounded up; 0 where that sum is 0
abbrev pub part : ℕ → ℕ → ℕ → ℕ
part whole weight sum = if sum == 0 then 0 else (whole * weight + (sum - 1)) / sum
