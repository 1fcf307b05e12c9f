-- Tokens that calls append one after another.
use Rattle.std.proofs.Common.{◌≡◌, List, ◌++◌, Result, Ok, Err, OnOk, ap, ◌∙◌, append_assoc}
use Rattle.json.specs.Token.{Token}

-- some more come after the first ones
pub more : (old first last xs ys : List Token) → first ≡ old ++ xs → last ≡ first ++ ys → last ≡ old ++ (xs ++ ys)
more old first last xs ys one two = two ∙ ap (λ ts. ts ++ ys) one ∙ append_assoc old xs ys

-- those that a last call appends unless memory runs out
pub more_if_ok : {R E : Type 0} (r : Result R E) (old first last xs ys : List Token) → first ≡ old ++ xs → OnOk r (last ≡ first ++ ys) → OnOk r (last ≡ old ++ (xs ++ ys))
more_if_ok (Ok v) old first last xs ys one two = more old first last xs ys one two
more_if_ok (Err e) old first last xs ys one two = tt
