-- A text that is put together piece by piece, as long as there is memory: its bytes, or none where
-- memory ran out.
use Rattle.std.specs.Prelude.{ℕ, zero, suc, ◌≡◌, List, [], ◌++◌, Option, IfSome, IsSomeAnd}

-- a piece was appended, or it is cut off
abbrev pub Puts : Option (List ℕ) → List ℕ → Option (List ℕ) → Type 0
Puts old piece new = IfSome new (λ text. IsSomeAnd old (λ before. text ≡ before ++ piece))

-- the words were appended, and what is displayed, as far as that is known, or it is cut off
abbrev pub Shows : Option (List ℕ) → List ℕ → Option (List ℕ) → Option (List ℕ) → Type 0
Shows old words shown new = IfSome shown (λ piece. Puts old (words ++ piece) new)

-- the pieces of all numbers below that one, in their order
abbrev pub all_below : (ℕ → List ℕ) → ℕ → List ℕ
all_below piece zero = []
all_below piece (suc n) = all_below piece n ++ piece n
