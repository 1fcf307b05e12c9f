-- Stores, piece by piece.
use Rattle.std.proofs.Common.{◌≡◌, ℤ, List, Result, Ok, sym, ap, ◌∙◌}
use Rattle.scx_isa_semantics.specs.declared.instructions.Operand.{Operand}
use Rattle.scx_isa_semantics.specs.declared.operations.Width.TheVariants.{Bits64}
use Rattle.scx_isa_semantics.specs.declared.operations.Size.{Size}
use Rattle.scx_isa_semantics.specs.Results.{◌>>=◌}
use Rattle.scx_maps.specs.declared.shape.Shape.{Shape}
use Rattle.scx_abs.specs.declared.faults.Why.{Why}
use Rattle.scx_abs.specs.declared.kinds.Kind.{Kind}
use Rattle.scx_abs.specs.declared.states.AbsState.{AbsState}
use Rattle.scx_abs.specs.declared.rules.Next.{Next}
use Rattle.scx_abs.specs.Checks.{operand_kind}
use Rattle.scx_abs.specs.Pieces.{kind_stored, operand_stored}

-- an operand is stored as what has its kind
pub stored_as : (shapes : List Shape) (a : AbsState) (s : Size) (base : Kind) (offset at : ℤ) (x : Operand) (k : Kind) (r : Result Next Why)
    → r ≡ kind_stored shapes a s base at k → at ≡ offset → operand_kind a Bits64 x ≡ Ok k → r ≡ operand_stored shapes a s base offset x
stored_as shapes a s base offset at x k r f same e =
    f ∙ (ap (λ o. kind_stored shapes a s base o k) same ∙ sym (ap (λ z. z >>= kind_stored shapes a s base offset) e))
