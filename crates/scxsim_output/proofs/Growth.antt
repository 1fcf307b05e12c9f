-- How the known bytes of an output grow over the writes of one slice.
use Rattle.std.proofs.Common.{ℕ, ◌+◌, List, ◌++◌, take, drop, Option, None, Some, sym, ap, ◌∙◌, append_assoc}
use Rattle.std.proofs.Math.Seq.{take-add}
use Rattle.std.proofs.lemmas.List.{append-nil}
use Rattle.std.specs.Io.KnownBytes.{Appends}

-- at the start nothing was written
pub grows_by_none : (known : Option (List ℕ)) (bytes : List ℕ) → Appends known known (take 0 bytes)
grows_by_none None bytes = tt
grows_by_none (Some xs) bytes = sym (append-nil xs)

-- two growths, one after the other
pub grows_twice : (a b c : Option (List ℕ)) (xs ys : List ℕ) → Appends a b xs → Appends b c ys → Appends a c (xs ++ ys)
grows_twice None b c xs ys first next = tt
grows_twice (Some old) None c xs ys first next = absurd first
grows_twice (Some old) (Some bs) None xs ys first next = absurd next
grows_twice (Some old) (Some bs) (Some cs) xs ys first next =
    next ∙ ap (λ front. front ++ ys) first ∙ append_assoc old xs ys

-- after the first n bytes come the next k
pub grows_on : (a b c : Option (List ℕ)) (bytes : List ℕ) (n k : ℕ) →
    Appends a b (take n bytes) → Appends b c (take k (drop n bytes)) → Appends a c (take (n + k) bytes)
grows_on a b c bytes n k first next = rw take-add (grows_twice a b c _ _ first next)
