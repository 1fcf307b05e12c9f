-- The answers of a write: failures, their count, and the growth of the bytes.
use Rattle.std.specs.Prelude.{◌≡◌, ℕ, ◌+◌, ◌-◌, ◌^◌, ◌<◌, min, List, length, take, ⊤, Option, Result, MatchResult}
use Rattle.std.specs.Io.KnownBytes.{Appends}

-- the answer is an error, or none of the bytes was taken, though there are some
abbrev pub IsFailure : {E : Type 0} → Result ℕ E → List ℕ → Type 0
IsFailure r bytes = MatchResult r (λ count. (count ≡ 0) × (0 < length bytes)) (λ _. ⊤)

-- one more failure was counted, up to the greatest count, which stays
abbrev pub HasFailed : ℕ → ℕ → Type 0
HasFailed old new = new ≡ min (old + 1) (2 ^ 64 - 1)

-- a writer that ends well counts no failure, and one that fails counts one more
abbrev pub Counts : {A E : Type 0} → Result A E → ℕ → ℕ → Type 0
Counts r old new = MatchResult r (λ _. new ≡ old) (λ _. HasFailed old new)

-- known bytes grow by some bytes from the front of these, but not by all
abbrev pub AppendsBeginning : Option (List ℕ) → Option (List ℕ) → List ℕ → Type 0
AppendsBeginning old new bytes =
    (count : ℕ) × (count < length bytes) × Appends old new (take count bytes)
