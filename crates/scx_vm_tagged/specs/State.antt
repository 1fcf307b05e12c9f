-- The state of the interpreter as a state of the machine (RFC 9669, sections 3.1 and 5).
use Rattle.std.specs.Prelude.{ℕ, slice_index_or}
use Rattle.scx_isa_semantics.specs.declared.values.Value.{Value}
use Rattle.scx_isa_semantics.specs.declared.values.Value.TheVariants.{Unset}
use Rattle.scx_isa_semantics.specs.Elements.{Maps}
use Rattle.scx_isa_semantics.specs.Machine.{Machine}
use Rattle.scx_vm_tagged.specs.declared.state.Core.{Core}
use Rattle.scx_vm_tagged.specs.Stack.{seen_stack}

-- what a register holds
abbrev pub register_value : Core → ℕ → Value
register_value c r = slice_index_or c.registers r Unset

-- the interpreter's registers and stack, with these maps, as a state of the definitions
abbrev pub seen : Core → Maps → Machine
seen c maps = record { registers = register_value c; stack = seen_stack c.stack; maps = maps }
