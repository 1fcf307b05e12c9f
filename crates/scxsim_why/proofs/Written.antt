-- Two texts that are written one after the other.
use Rattle.std.proofs.Common.{ℕ, List, ◌++◌, Option, Result, Ok, Err, OnOk}
use Rattle.std.specs.Io.KnownBytes.{Appends}
use Rattle.scxsim_output.proofs.Growth.{grows_twice}

-- what is appended last, if it is, comes after what was appended before
pub appended_next : {A E : Type 0} (r : Result A E) (a b c : Option (List ℕ)) (xs ys : List ℕ) → Appends a b xs → OnOk r (Appends b c ys) → OnOk r (Appends a c (xs ++ ys))
appended_next (Err e) a b c xs ys first next = tt
appended_next (Ok x) a b c xs ys first next = grows_twice a b c xs ys first next
