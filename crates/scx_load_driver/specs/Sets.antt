-- Sets of numbers, a bit each.
use Rattle.std.specs.Prelude.{ℕ, ◌*◌, ◌/◌, ◌%◌, ◌^◌, ◌≡◌, ◌≤◌, ◌<◌, Bool, true, false, ◌==◌, List, length, map, slice_index_or}
use Rattle.std.specs.Int.{bit_at}
use Rattle.std.specs.List.{range_with_len}
use Rattle.scx_load_driver.specs.declared.set.NumberSet.TheInside.{Inside}

-- whether that bit of the words is set
abbrev pub is_in : List ℕ → ℕ → Bool
is_in words n = bit_at (slice_index_or words (n / 64) 0) (n % 64) == 1

-- for each number below the limit whether its bit is set
abbrev pub members : ℕ → List ℕ → List Bool
members limit words = map (is_in words) (range_with_len 0 limit)

-- whether the number is there; none is past the end
abbrev pub is_there : List Bool → ℕ → Bool
is_there numbers n = slice_index_or numbers n false

-- the lowest number from one on and below an end of which the test is true; the end where none is
pub record IsNext (test : ℕ → Bool) (from end n : ℕ) : Type 0 where
  pub most : n ≤ end
  pub after : n < end → from ≤ n
  pub there : n < end → test n ≡ true
  pub none : (k : ℕ) → from ≤ k → k < n → test k ≡ false

-- there is a word for the bit of each number
pub record IsKept (s : Inside) : Type 0 where
  pub enough : s.limit ≤ 64 * length s.words.items
  pub few : length s.words.items ≤ 2 ^ 20
