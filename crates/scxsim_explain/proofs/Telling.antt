-- One program, and what is written of it.
use Rattle.std.proofs.Common.{ℕ, Bool, List, Option, Result, Ok, Err}
use Rattle.std.specs.Prelude.{IfOk}
use Rattle.std.specs.Io.KnownBytes.{Appends}
use Rattle.scxsim_explain.specs.declared.explained.Explained.{Explained}
use Rattle.scxsim_explain.specs.One.{IsChosenOf, IsOneOf, IsTold}

-- what is written of the program that a name chose is what is written of that name
pub told_of : {E : Type 0} (r : Result Bool E) (bytes name : List ℕ) (found : Option Explained) (a b : Option (List ℕ))
    → IsChosenOf bytes name found → IfOk r (λ answer. (text : List ℕ) × IsTold found answer text × Appends a b text)
    → IfOk r (λ answer. (text : List ℕ) × IsOneOf bytes name answer text × Appends a b text)
told_of (Err e) bytes name found a b chosen told = tt
told_of (Ok answer) bytes name found a b chosen told =
    (told.0, record { found = found; chosen = chosen; told = told.1 }, told.2)
