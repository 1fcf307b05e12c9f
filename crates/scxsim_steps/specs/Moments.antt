-- The millisecond of a run that a word names.
use Rattle.std.specs.Prelude.{◌≡◌, ℕ, ◌≤◌, List}
use Rattle.std.specs.Str.Parse.{IsNumeral, digits_value, without_leading_plus}

-- digits, with a plus before them or without one, say that number
abbrev pub Says : List ℕ → ℕ → Type 0
Says text n =
    IsNumeral 10 (without_leading_plus text)
    × (digits_value 10 (without_leading_plus text) ≡ n)

-- the word names a millisecond of a run that ends at that one
pub record IsMoment (all : ℕ) (word : List ℕ) (ms : ℕ) : Type 0 where
  pub said : Says word ms
  pub inside : ms ≤ all
