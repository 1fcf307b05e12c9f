-- Rules in pieces, as they are done in place.
use Rattle.std.specs.Prelude.{ℕ, ℤ, List, Result, Ok}
use Rattle.scx_isa_semantics.specs.declared.instructions.Operand.{Operand}
use Rattle.scx_isa_semantics.specs.declared.operations.Width.{Width}
use Rattle.scx_isa_semantics.specs.declared.operations.Width.TheVariants.{Bits64}
use Rattle.scx_isa_semantics.specs.declared.operations.Operation.{Operation}
use Rattle.scx_isa_semantics.specs.declared.operations.Size.{Size}
use Rattle.scx_isa_semantics.specs.Memory.{size_bytes}
use Rattle.scx_isa_semantics.specs.Results.{◌>>=◌}
use Rattle.scx_maps.specs.declared.shape.Shape.{Shape}
use Rattle.scx_abs_ranges.specs.declared.ranges.Range.{Range}
use Rattle.scx_abs_ranges.specs.Results.{computed_at}
use Rattle.scx_abs.specs.declared.faults.Why.{Why}
use Rattle.scx_abs.specs.declared.kinds.Kind.{Kind}
use Rattle.scx_abs.specs.declared.kinds.Kind.TheVariants.{Num}
use Rattle.scx_abs.specs.declared.states.AbsState.{AbsState}
use Rattle.scx_abs.specs.declared.rules.Next.{Next}
use Rattle.scx_isa_semantics.specs.declared.registers.Register.{Register}
use Rattle.scx_isa_semantics.specs.Registers.{number}
use Rattle.scx_abs.specs.States.{kind_at}
use Rattle.scx_abs.specs.Checks.{usable, operand_kind}
use Rattle.scx_abs.specs.Rules.{advanced_by, area_of, computed_kind, moved_kind, stored_in}

-- a copy
abbrev pub copied_kind : AbsState → Width → Operand → Result Kind Why
copied_kind a w x = operand_kind a w x >>= moved_kind w

-- arithmetic on a number of these, and an operand
abbrev pub combined_with : AbsState → Width → Operation → Range → Operand → Result Kind Why
combined_with a w o r x = operand_kind a w x >>= computed_kind w o r

-- and a number of those, if it is one
abbrev pub combined_numbers : Width → Operation → Range → Result Range Why → Result Kind Why
combined_numbers w o r s = s >>= (λ s. Ok (Num (computed_at w o r s)))

-- a pointer to one of these offsets in an element, as far on as a register says
abbrev pub advanced_kind : List Shape → AbsState → ℕ → Range → Register → Result Kind Why
advanced_kind shapes a m r s = usable (kind_at a (number s)) >>= advanced_by shapes m r

-- a store of that kind
abbrev pub kind_stored : List Shape → AbsState → Size → Kind → ℤ → Kind → Result Next Why
kind_stored shapes a s base offset k = area_of shapes base offset (size_bytes s) >>= stored_in a s k

-- and of an operand
abbrev pub operand_stored : List Shape → AbsState → Size → Kind → ℤ → Operand → Result Next Why
operand_stored shapes a s base offset x =
    operand_kind a Bits64 x >>= kind_stored shapes a s base offset
