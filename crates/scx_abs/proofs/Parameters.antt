-- The arguments of a call, one after another.
use Rattle.std.proofs.Common.{◌≡◌, ℕ, ◌+◌, List, ◌∷◌, drop, Ok, Err, Some, refl, sym, ap, ◌∙◌}
use Rattle.std.specs.List.{slice_get}
use Rattle.std.proofs.lemmas.List.{drop_more}
use Rattle.std.proofs.lemmas.Option.{slice_get_within, get_or_from_slice_get}
use Rattle.scx_isa_semantics.specs.declared.host_tables.Parameter.{Parameter}
use Rattle.scx_maps.specs.declared.shape.Shape.{Shape}
use Rattle.scx_abs.specs.declared.faults.Why.{Why}
use Rattle.scx_abs.specs.declared.kinds.Kind.{Kind}
use Rattle.scx_abs.specs.declared.states.AbsState.{AbsState}
use Rattle.scx_abs.specs.States.{kind_at}
use Rattle.scx_abs.specs.Calls.{argument_check, arguments_check}

-- those from one on are that one and those behind it
parameters_from : (ps : List Parameter) (i : ℕ) (p : Parameter) → slice_get ps i ≡ Some p → drop i ps ≡ p ∷ drop (i + 1) ps
parameters_from ps i p e =
    drop_more ps i p (slice_get_within ps i p e) ∙ ap (λ q. q ∷ drop (i + 1) ps) (get_or_from_slice_get ps i p p e)

-- where one passes, what is left is to check those behind it
pub argument_passed : (shapes : List Shape) (a : AbsState) (ps : List Parameter) (i : ℕ) (p : Parameter) (k : Kind) (u : Unit {0})
    → slice_get ps i ≡ Some p → k ≡ kind_at a (i + 1) → argument_check shapes a p k ≡ Ok u
    → arguments_check shapes a (drop (i + 1) ps) (i + 1 + 1) ≡ arguments_check shapes a (drop i ps) (i + 1)
argument_passed shapes a ps i p k u e here passed =
    rw (parameters_from ps i p e, ap (argument_check shapes a p) (sym here) ∙ passed) refl

-- the first argument that is refused is the refusal of all
pub argument_refused : (shapes : List Shape) (a : AbsState) (ps : List Parameter) (i : ℕ) (p : Parameter) (k : Kind) (why : Why)
    → slice_get ps i ≡ Some p → k ≡ kind_at a (i + 1) → argument_check shapes a p k ≡ Err why
    → Err why ≡ arguments_check shapes a (drop i ps) (i + 1)
argument_refused shapes a ps i p k why e here refused =
    rw (parameters_from ps i p e, ap (argument_check shapes a p) (sym here) ∙ refused) refl
