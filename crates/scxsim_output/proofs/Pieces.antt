-- Pieces that were put behind a text, one after another.
use Rattle.std.proofs.Common.{◌≡◌, ℕ, suc, ◌+◌, List, [], ◌∷◌, ◌++◌, Option, None, Some, Result, Ok, Err, IfOk, replicate, refl, sym, ap, subst, ◌∙◌, append_assoc, arith}
use Rattle.std.proofs.lemmas.List.{append-nil, replicate_more}
use Rattle.scxsim_output.specs.Texts.{Puts, all_below}

-- two pieces are one
pub puts_both : (c b a : Option (List ℕ)) (x y : List ℕ) → Puts a x b → Puts b y c → Puts a (x ++ y) c
puts_both None b a x y one two = tt
puts_both (Some t) None a x y one two = absurd two
puts_both (Some t) (Some u) None x y one two = absurd one
puts_both (Some t) (Some u) (Some s) x y one two = two ∙ ap (λ l. l ++ y) one ∙ append_assoc s x y

-- no piece changes nothing
pub puts_nothing : (a : Option (List ℕ)) → Puts a [] a
puts_nothing None = tt
puts_nothing (Some t) = sym (append-nil t)

-- one space more
pub puts_space : (c b a : Option (List ℕ)) (n : ℕ) → Puts a (replicate n 32) b → Puts b (32 ∷ []) c → Puts a (replicate (n + 1) 32) c
puts_space c b a n one two =
    let P : List ℕ → Type 0 = λ x. Puts a x c in
    subst P (replicate_more n 32) (puts_both c b a (replicate n 32) (32 ∷ []) one two)

one_more : (piece : ℕ → List ℕ) (n : ℕ) → all_below piece (n + 1) ≡ all_below piece n ++ piece n
one_more piece n =
    let same : suc n ≡ n + 1 = omega arith in
    subst (λ k. all_below piece k ≡ all_below piece n ++ piece n) same refl

-- the piece of one number more
pub puts_next : (piece : ℕ → List ℕ) (n : ℕ) (c b a : Option (List ℕ)) → Puts a (all_below piece n) b → Puts b (piece n) c → Puts a (all_below piece (n + 1)) c
puts_next piece n c b a before next =
    let P : List ℕ → Type 0 = λ x. Puts a x c in
    subst P (sym (one_more piece n)) (puts_both c b a (all_below piece n) (piece n) before next)

-- a text that began empty is the piece that was put after it
pub all_put : {A E : Type 0} (r : Result A E) (bytes : A → List ℕ) (a b : Option (List ℕ)) (piece : List ℕ) → a ≡ Some [] → Puts a piece b → IfOk r (λ x. b ≡ Some (bytes x)) → IfOk r (λ x. bytes x ≡ piece)
all_put (Err e) bytes a b piece empty put is = tt
all_put (Ok x) bytes a b piece empty put is =
    let Q : Option (List ℕ) → Type 0 = λ o. Puts o piece b in
    let P : Option (List ℕ) → Type 0 = λ o. Puts (Some []) piece o in
    subst P is (subst Q empty put)
