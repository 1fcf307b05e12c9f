-- Lengths of a task's waits or bursts, with their counts.
use Rattle.std.specs.Prelude.{ℕ, ◌+◌, ◌-◌, ◌*◌, ◌/◌, ◌^◌, ◌==◌, ◌||◌, nat_lt, min, max, Bool, true, false, if◌then◌else◌, List, [], ◌∷◌}
use Rattle.scxsim_views.specs.declared.pauses.Pause.{Pause}

-- what is counted of waits, or of bursts: how many, their milliseconds in all, the longest with its
-- beginning, and how many there were of each length, the shortest first
pub record Lengths : Type 0 where
  pub count : ℕ
  pub total : ℕ
  pub longest : ℕ
  pub longest_since : ℕ  -- when the first of the longest began
  pub times : List (ℕ × ℕ)

-- 1 where something holds, and 0 where it doesn't
abbrev pub one_if : Bool → ℕ
one_if true = 1
one_if false = 0

-- a count stops at the greatest number of 64 bits
abbrev pub at_most_64_bits : ℕ → ℕ
at_most_64_bits n = min n (2 ^ 64 - 1)

-- a count with `more` more, up to the greatest number of 64 bits
abbrev pub up_by : ℕ → ℕ → ℕ
up_by more n = at_most_64_bits (n + more)

-- a count with one more, up to the greatest number of 64 bits
abbrev pub up : ℕ → ℕ
up n = up_by 1 n

-- what is counted before the first one
abbrev pub no_lengths : Lengths
no_lengths = record { count = 0; total = 0; longest = 0; longest_since = 0; times = [] }

-- one more of that length, among how many there were of each
abbrev pub one_more_of : ℕ → List (ℕ × ℕ) → List (ℕ × ℕ)
one_more_of length [] = (length, 1) ∷ []
one_more_of length (e ∷ es) =
    if nat_lt length e.0 then (length, 1) ∷ e ∷ es
    else (if length == e.0 then (e.0, up e.1) ∷ es else e ∷ one_more_of length es)

-- one of that length is longer than all before it; the first is, whatever its length
abbrev pub is_longest : ℕ → Lengths → Bool
is_longest length x = (x.count == 0) || nat_lt x.longest length

-- what is counted with one more, which began then and took so long
abbrev pub with_length : ℕ → ℕ → Lengths → Lengths
with_length since length x = record {
  count = up x.count;
  total = up_by length x.total;
  longest = if is_longest length x then length else x.longest;
  longest_since = if is_longest length x then since else x.longest_since;
  times = one_more_of length x.times;
}

-- how many milliseconds a pause took
abbrev pub length_of : Pause → ℕ
length_of p = p.until - p.since

-- what is counted with this pause as one wait more
abbrev pub with_wait : Pause → Lengths → Lengths
with_wait p x = with_length p.since (length_of p) x

-- `times` more of that length, among how many there were of each
abbrev pub more_of : ℕ → ℕ → List (ℕ × ℕ) → List (ℕ × ℕ)
more_of times length [] = (length, up_by times 0) ∷ []
more_of times length (e ∷ es) =
    if nat_lt length e.0 then (length, up_by times 0) ∷ e ∷ es
    else (if length == e.0 then (e.0, up_by times e.1) ∷ es else e ∷ more_of times length es)

-- how many there were of each length, with those of the first list added to those of the second
abbrev pub all_added : List (ℕ × ℕ) → List (ℕ × ℕ) → List (ℕ × ℕ)
all_added [] es = es
all_added (m ∷ ms) es = all_added ms (more_of m.1 m.0 es)

-- when the first of the longest began, where two counts are as long: at the lower of both clocks
abbrev pub first_since : Lengths → Lengths → ℕ
first_since y x =
    if y.longest == x.longest then min x.longest_since y.longest_since else x.longest_since

-- when the first of the longest of two counts began; a count of none changes nothing
abbrev pub longest_since_of : Lengths → Lengths → ℕ
longest_since_of y x =
    if y.count == 0 then x.longest_since
    else (if is_longest y.longest x then y.longest_since else first_since y x)

-- what is counted in both
abbrev pub merged : Lengths → Lengths → Lengths
merged y x = record {
  count = up_by y.count x.count;
  total = up_by y.total x.total;
  longest = max x.longest y.longest;
  longest_since = longest_since_of y x;
  times = all_added y.times x.times;
}

-- what is counted in both, if the first count is to be added
abbrev pub merged_if : Bool → Lengths → Lengths → Lengths
merged_if true y x = merged y x
merged_if false y x = x

-- in hundredths, rounded down; of none it is 0
abbrev pub mean : Lengths → ℕ
mean x = if x.count == 0 then 0 else at_most_64_bits (x.total * 100) / x.count

-- the first of these lengths with which enough are reached, where `shorter` are shorter than all of
-- them; 0 where they never are
abbrev pub first_reaching : ℕ → ℕ → List (ℕ × ℕ) → ℕ
first_reaching enough shorter [] = 0
first_reaching enough shorter (e ∷ es) =
    if nat_lt (at_most_64_bits (up_by e.1 shorter * 100)) enough
    then first_reaching enough (up_by e.1 shorter) es else e.0

-- the least length that `percent` of 100 don't exceed
abbrev pub percentile : ℕ → Lengths → ℕ
percentile percent x = first_reaching (at_most_64_bits (x.count * percent)) 0 x.times
