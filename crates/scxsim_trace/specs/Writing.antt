-- An output after a text was written to it.
use Rattle.std.specs.Prelude.{◌≡◌, ℕ, Bool, true, false, List, Option}
use Rattle.std.specs.Io.KnownBytes.{Appends}
use Rattle.scxsim_output.specs.Output.{HasFailed, AppendsBeginning}

-- an output as its user sees it: the bytes in it where they are known, the number of failed writes,
-- and whether one of the user's failed
pub record Seen : Type 0 where
  pub contents : Option (List ℕ)
  pub failures : ℕ
  pub failed : Bool

-- the text is written whole, or, where its writing has failed, a beginning of it
abbrev pub WrittenUpTo : Bool → Seen → List ℕ → Seen → Type 0
WrittenUpTo false s text t = Appends s.contents t.contents text × (t.failures ≡ s.failures)
WrittenUpTo true s text t =
    AppendsBeginning s.contents t.contents text × HasFailed s.failures t.failures

-- a text is written, unless the output had failed before: then nothing changes
abbrev pub WrittenAfter : Bool → Seen → List ℕ → Seen → Type 0
WrittenAfter true s text t = t ≡ s
WrittenAfter false s text t = WrittenUpTo t.failed s text t

-- the text is written whole, or its writing fails once and only a beginning is; after a
-- failure nothing is
abbrev pub Written : Seen → List ℕ → Seen → Type 0
Written s text t = WrittenAfter s.failed s text t
