-- The text that `explain` writes: of each program the line of its verdict, and then its listing.
use Rattle.std.specs.Prelude.{◌≡◌, ℕ, List, [], ◌∷◌, ◌++◌, codes, Option, Some, None}
use Rattle.std.specs.Io.KnownBytes.{Appends}
use Rattle.scx_isa_semantics.specs.declared.callbacks.Callback.{Callback}
use Rattle.scx_isa_semantics.specs.Callbacks.{callbacks, at}
use Rattle.scxsim_commands.specs.VerdictLines.{verdict_line}
use Rattle.scxsim_commands.specs.declared.verdict.Verdict.{Verdict}
use Rattle.scxsim_commands.specs.Verdicts.{Verdicts}

-- known bytes grow by some bytes
abbrev pub Grows : Option (List ℕ) → Option (List ℕ) → Type 0
Grows old new = (bytes : List ℕ) × Appends old new bytes

-- the line of a callback's verdict, if it has one
abbrev pub line_on : Callback → Option Verdict → List (List ℕ)
line_on b None = []
line_on b (Some verdict) = verdict_line b verdict ∷ []

-- the lines that `verify` writes of these callbacks, one after another
abbrev pub first_lines_of : Verdicts → List Callback → List (List ℕ)
first_lines_of v [] = []
first_lines_of v (b ∷ bs) = line_on b (at v b) ++ first_lines_of v bs

-- the lines that `verify` writes, in the order of callbacks
abbrev pub first_lines : Verdicts → List (List ℕ)
first_lines v = first_lines_of v callbacks

-- a text of programs with these first lines: each after an empty line, and with a listing
-- below its first
abbrev pub IsListedBehind : List (List ℕ) → List ℕ → Type 0
IsListedBehind [] text = text ≡ []
IsListedBehind (line ∷ lines) text =
    (listing : List ℕ) × (later : List ℕ) × IsListedBehind lines later
    × (text ≡ codes "\n" ++ (line ++ listing) ++ later)

-- a text of programs with these first lines, with no empty line before the first program
abbrev pub IsListed : List (List ℕ) → List ℕ → Type 0
IsListed [] text = text ≡ []
IsListed (line ∷ lines) text =
    (listing : List ℕ) × (later : List ℕ) × IsListedBehind lines later
    × (text ≡ (line ++ listing) ++ later)
