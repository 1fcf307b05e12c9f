-- Beginnings of texts that were written.
use Rattle.std.proofs.Common.{ℕ, ◌+◌, List, ◌++◌, length, take, Option, sym, subst, arith}
use Rattle.std.proofs.lemmas.List.{take-append-le, length-append}
use Rattle.std.proofs.Math.Seq.{take-append-add}
use Rattle.std.specs.Io.KnownBytes.{Appends}
use Rattle.scxsim_output.specs.Output.{AppendsBeginning}
use Rattle.scxsim_output.proofs.Growth.{grows_twice}

-- a beginning of a text is a beginning of a longer one
pub beginning_of_more : (a b : Option (List ℕ)) (xs ys : List ℕ) → AppendsBeginning a b xs → AppendsBeginning a b (xs ++ ys)
beginning_of_more a b xs ys (count, few, grown) =
    let P : List ℕ → Type 0 = λ z. Appends a b z in
    (count, omega (arith, length-append xs ys, few), subst P (sym (take-append-le count xs ys (omega (arith, few)))) grown)

-- a text, and then a beginning of another
pub beginning_behind : (a b c : Option (List ℕ)) (xs ys : List ℕ) → Appends a b xs → AppendsBeginning b c ys → AppendsBeginning a c (xs ++ ys)
beginning_behind a b c xs ys first (count, few, grown) =
    let P : List ℕ → Type 0 = λ z. Appends a c z in
    (length xs + count, omega (arith, length-append xs ys, few), subst P (sym (take-append-add xs ys count)) (grows_twice a b c xs (take count ys) first grown))
