-- Percentiles: the least length that `percent` of 100 don't exceed.
use Rattle.std.specs.Prelude.{ℕ, ◌+◌, ◌*◌, ◌^◌, ◌<◌, ◌≤◌, nat_lt, Bool, not, List, [], ◌∷◌, length}
use Rattle.scxsim_views.specs.Lengths.{Lengths, one_if, percentile}

-- how many of these lengths pass a test
abbrev pub how_many : (ℕ → Bool) → List ℕ → ℕ
how_many test [] = 0
how_many test (l ∷ ls) = one_if (test l) + how_many test ls

-- the second length doesn't exceed the first
abbrev pub are_up_to : ℕ → ℕ → Bool
are_up_to x l = not (nat_lt x l)

-- at least `percent` of 100 of these lengths don't exceed that one
abbrev pub AreReached : ℕ → List ℕ → ℕ → Type 0
AreReached percent ls x = length ls * percent ≤ how_many (are_up_to x) ls * 100

-- it is the least length that `percent` of 100 of these don't exceed
pub record IsPercentile (percent : ℕ) (ls : List ℕ) (x : ℕ) : Type 0 where
  pub reached : AreReached percent ls x
  pub least : (y : ℕ) → y < x → AreReached percent ls y → ⊥

-- what was counted of these lengths tells their percentiles; of 2^57 or more it might not, since
-- counts stop at the greatest number of 64 bits
abbrev pub ArePercentiles : List ℕ → Lengths → Type 0
ArePercentiles ls x =
    (percent : ℕ)
    → 0 < percent → percent ≤ 100 → length ls < 2 ^ 57
    → IsPercentile percent ls (percentile percent x)
