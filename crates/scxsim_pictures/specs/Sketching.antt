-- The text that a sketch writes of a run as it goes. The states of its view are of any type: a
-- definition speaks of the output that they write to, and of what is seen of the output.
use Rattle.std.specs.Prelude.{◌≡◌, ℕ, Bool, true, false, List, Option}
use Rattle.std.specs.Io.KnownBytes.{Appends}
use Rattle.scxsim_output.specs.Output.{HasFailed}
use Rattle.scxsim_trace.specs.Writing.{Seen}

-- known bytes grow by some bytes
abbrev pub Grows : Option (List ℕ) → Option (List ℕ) → Type 0
Grows old new = (bytes : List ℕ) × Appends old new bytes

-- known bytes grow by one of these texts
abbrev pub GrowsBy : (List ℕ → Type 0) → Option (List ℕ) → Option (List ℕ) → Type 0
GrowsBy texts old new = (text : List ℕ) × texts text × Appends old new text

-- one of these texts was written whole, or a write failed
abbrev pub IsWholeOr : Bool → (List ℕ → Type 0) → Seen → Seen → Type 0
IsWholeOr false texts s t = GrowsBy texts s.contents t.contents × (t.failures ≡ s.failures)
IsWholeOr true texts s t = HasFailed s.failures t.failures

-- after a failure nothing is written
abbrev pub IsWholeUnless : Bool → (List ℕ → Type 0) → Seen → Seen → Type 0
IsWholeUnless true texts s t = t ≡ s
IsWholeUnless false texts s t = IsWholeOr t.failed texts s t

-- nothing is written
abbrev pub KeepsOutput : {S G : Type 0} → (S → G) → (S → Seen) → S → S → Type 0
KeepsOutput output seen s t = (output t ≡ output s) × (seen t ≡ seen s)

-- one of the texts of the new state is written whole, or a write fails; a sketch whose output has
-- failed is left as it was
abbrev pub TakesSketch :
    {S G : Type 0} → (S → G) → (S → Seen) → (S → List ℕ → Type 0) → S → S → Type 0
TakesSketch output seen texts s t =
    ((seen s).failed ≡ true → t ≡ s) × (output t ≡ output s)
    × IsWholeUnless (seen s).failed (texts t) (seen s) (seen t)
