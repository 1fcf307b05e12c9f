-- Copies of a machine, one after another.
use Rattle.std.proofs.Common.{◌≡◌, ℕ, ◌+◌, List, [], ◌∷◌, ◌++◌, All, refl, sym, ap, ◌∙◌, subst}
use Rattle.std.proofs.lemmas.List.{length-append}
use Rattle.std.proofs.lemmas.List.Elements.{All-nil, All-push}
use Rattle.scx_sched.specs.Sim.{SimState}
use Rattle.scx_explore_findings.specs.Path.{IsAs}
use Rattle.scx_explore_findings.specs.Copies.{AreCopies}
use Rattle.scx_explore_findings.proofs.SamePolicy.{as_itself}

-- none are there
pub no_copies : (r : SimState) (xs : List SimState) → xs ≡ [] → AreCopies r 0 xs
no_copies r xs none = subst (λ (l : List SimState). AreCopies r 0 l) (sym none) (record { many = refl; same = All-nil (λ s. s ≡ r) })

-- and one more
pub one_copy : (r : SimState) (n : ℕ) (xs ys : List SimState) → AreCopies r n xs → ys ≡ xs ++ r ∷ [] → AreCopies r (n + 1) ys
one_copy r n xs ys so_far new =
    subst (λ (l : List SimState). AreCopies r (n + 1) l) (sym new)
    (record {
      many = length-append xs (r ∷ []) ∙ ap (λ (k : ℕ). k + 1) so_far.many;
      same = All-push (λ s. s ≡ r) xs r so_far.same refl;
    })

-- each has the policy and the size of the first one
pub copies_fit : (r : SimState) (n : ℕ) (xs : List SimState) → AreCopies r n xs → All (IsAs r) xs
copies_fit r n xs copies k d few = subst (λ (s : SimState). IsAs r s) (sym (copies.same k d few)) (as_itself r)
