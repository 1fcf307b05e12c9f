-- The uses of the programs of some callbacks, one after another.
use Rattle.std.proofs.Common.{◌≡◌, ℕ, zero, suc, ◌+◌, ◌<◌, List, [], ◌∷◌, length, take, get_or, refl, subst, arith, Result}
use Rattle.std.specs.Prelude.{IfOk}
use Rattle.scx_isa_semantics.specs.declared.callbacks.Callback.{Callback}
use Rattle.scx_isa_semantics.specs.Callbacks.{at}
use Rattle.scx_isa_semantics.specs.declared.rules.Rules.{Rules}
use Rattle.scx_maps.specs.declared.shape.Shape.{Shape}
use Rattle.scx_load_policies.specs.Policies.{Programs}
use Rattle.scx_explore_bounds.specs.declared.uses.Uses.{Uses}
use Rattle.scx_explore_bounds.specs.Forms.{DoAll, DoesAs}

-- nothing is done by none
pub none_do : (r : Rules) (shapes : List Shape) (p : Programs) (u : Uses) → DoAll r shapes p [] u u
none_do r shapes p u = refl

then_one : (r : Rules) (shapes : List Shape) (p : Programs) (bs : List Callback) (k : ℕ) (b : Callback) (u v w : Uses) → k < length bs
    → DoAll r shapes p (take k bs) u v → DoesAs r shapes (get_or bs k b) (at p (get_or bs k b)) v w → DoAll r shapes p (take (suc k) bs) u w
then_one r shapes p [] k b u v w l so_far one = absurd (omega (arith, l))
then_one r shapes p (a ∷ bs) zero b u v w l so_far one = (w, subst (λ (x : Uses). DoesAs r shapes a (at p a) x w) so_far one, refl)
then_one r shapes p (a ∷ bs) (suc k) b u v w l (x, first, rest) one = (x, first, then_one r shapes p bs k b x v w (omega (arith, l)) rest one)

-- one more after the first so many
pub one_more : (r : Rules) (shapes : List Shape) (p : Programs) (bs : List Callback) (k : ℕ) (b : Callback) (u v w : Uses) → k < length bs
    → DoAll r shapes p (take k bs) u v → DoesAs r shapes (get_or bs k b) (at p (get_or bs k b)) v w → DoAll r shapes p (take (k + 1) bs) u w
one_more r shapes p bs k b u v w l so_far one =
    let next : suc k ≡ k + 1 = omega arith in
    subst (λ (n : ℕ). DoAll r shapes p (take n bs) u w) next (then_one r shapes p bs k b u v w l so_far one)

-- what is done by the programs of a policy, by its rules and under its maps
pub done_by : {E : Type 0} (r q : Rules) (s t : List Shape) (p o : Programs) (bs : List Callback) (u : Uses) (made : Result Uses E) → r ≡ q → s ≡ t → p ≡ o
    → IfOk made (DoAll r s p bs u) → IfOk made (DoAll q t o bs u)
done_by r q s t p o bs u made rules shapes programs done =
    subst (λ (x : Rules). IfOk made (DoAll x t o bs u)) rules
    (subst (λ (x : List Shape). IfOk made (DoAll r x o bs u)) shapes
    (subst (λ (x : Programs). IfOk made (DoAll r s x bs u)) programs done))
