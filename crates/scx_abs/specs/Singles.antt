-- Operations that read single numbers alone.
use Rattle.std.specs.Prelude.{Bool, true, false, ◌&&◌}
use Rattle.scx_isa_semantics.specs.declared.instructions.Operand.{Operand}
use Rattle.scx_isa_semantics.specs.declared.instructions.Operand.TheVariants as operand
use Rattle.scx_isa_semantics.specs.declared.operations.Operation.{Operation}
use Rattle.scx_isa_semantics.specs.declared.operations.Operation.TheVariants.{Move}
use Rattle.scx_isa_semantics.specs.declared.registers.Register.{Register}
use Rattle.scx_isa_semantics.specs.Registers.{number}
use Rattle.scx_abs_ranges.specs.Ranges.{is_single}
use Rattle.scx_abs.specs.declared.kinds.Kind.{Kind}
use Rattle.scx_abs.specs.declared.kinds.Kind.TheVariants.{Num}
use Rattle.scx_abs.specs.declared.states.AbsState.{AbsState}
use Rattle.scx_abs.specs.States.{kind_at}

-- it is known which number it is
abbrev pub is_single_number : Kind → Bool
is_single_number (Num r) = is_single r
is_single_number k = false

-- it is known which number the operand is: an immediate, or a register of a single number
abbrev pub is_single_operand : AbsState → Operand → Bool
is_single_operand a (operand.Immediate k) = true
is_single_operand a (operand.Register r) = is_single_number (kind_at a (number r))

-- the operand, and except in a move the destination too
abbrev pub reads_singles : AbsState → Operation → Register → Operand → Bool
reads_singles a Move d x = is_single_operand a x
reads_singles a o d x = is_single_number (kind_at a (number d)) && is_single_operand a x
