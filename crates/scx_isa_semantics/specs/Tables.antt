-- Tables read backwards: the first item of a list whose code is a given number.
use Rattle.std.specs.Prelude.{ℕ, nat_eq, List, [], ◌∷◌, Option, Some, None, if◌then◌else◌}

-- the first of the list that has that number
abbrev pub first_with_code : {A : Type 0} → (A → ℕ) → List A → ℕ → Option A
first_with_code code [] n = None
first_with_code code (x ∷ xs) n = if nat_eq n (code x) then Some x else first_with_code code xs n
