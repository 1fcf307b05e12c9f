-- Waits by the clock. The ends of a stretch are sums of a moment and its clock, which is one less
-- where a millisecond ends; its length goes by moments.
use Rattle.std.specs.Prelude.{◌≡◌, ℕ, ◌+◌, ◌-◌, ◌/◌, ◌%◌, ◌<◌, nat_lt, ◌==◌, if◌then◌else◌, Bool, true, false, ◌⊎◌}
use Rattle.scxsim_template.specs.Pieces.{moment_of}

-- the clock in a sum of a moment and its clock
abbrev pub clock_of : ℕ → ℕ
clock_of sum = sum / 2

-- true if the clock goes on between two sums, and no tick comes
abbrev pub is_without_tick : ℕ → ℕ → Bool
is_without_tick since until =
    if moment_of since == moment_of until then nat_lt since until else false

-- a moment and the last bit of its sum give the clock
abbrev pub ClocksAreTold : Type 0
ClocksAreTold = (sum : ℕ) → clock_of sum ≡ moment_of sum - sum % 2

-- a wait that has time by the clock has time by moments, or is without a tick
abbrev pub WaitsAreTold : Type 0
WaitsAreTold =
    (since until : ℕ) → clock_of since < clock_of until
    → (moment_of since < moment_of until) ⊎ (is_without_tick since until ≡ true)

-- a wait without a tick is one millisecond long by the clock
abbrev pub LastsAMillisecond : Type 0
LastsAMillisecond =
    (since until : ℕ) → is_without_tick since until ≡ true → clock_of until ≡ clock_of since + 1
