-- The operands of an instruction: registers that it reads, writes and stores, and the address
-- that it is given.
use Rattle.std.specs.Prelude.{◌≡◌, ℕ, ◌+◌, ◌⊎◌, ℤ, pos, Bool, true, false, List, Option, Some, None, option_map, slice_get, if◌then◌else◌}
use Rattle.scx_isa_semantics.specs.declared.instructions.Insn.{Insn}
use Rattle.scx_isa_semantics.specs.declared.instructions.Insn.TheVariants as insn
use Rattle.scx_isa_semantics.specs.declared.instructions.Operand.{Operand}
use Rattle.scx_isa_semantics.specs.declared.instructions.Operand.TheVariants as operand
use Rattle.scx_isa_semantics.specs.declared.operations.Operation.{Operation}
use Rattle.scx_isa_semantics.specs.declared.operations.Operation.TheVariants.{Move}
use Rattle.scx_isa_semantics.specs.declared.registers.Register.{Register}
use Rattle.scx_isa_semantics.specs.declared.registers.Register.TheVariants.{R2, R3}
use Rattle.scx_isa_semantics.specs.Registers.{number}
use Rattle.scx_isa_semantics.specs.declared.host_tables.Helper.{Helper}
use Rattle.scx_isa_semantics.specs.declared.host_tables.Helper.TheVariants.{MapLookupElem, OnMap}
use Rattle.scx_isa_semantics.specs.declared.host_tables.MapHelper.TheVariants.{Update, Delete, Push, Pop, Peek, LookUpPerCpu}
use Rattle.scx_isa_semantics.specs.declared.host_tables.Parameter.{Parameter}
use Rattle.scx_isa_semantics.specs.HostTables.{helper_at, parameters}
use Rattle.scx_isa_semantics.specs.Memory.{access_size}
use Rattle.scx_maps.specs.declared.shape.Shape.{Shape}
use Rattle.scx_abs.specs.declared.states.AbsState.{AbsState}
use Rattle.scx_abs.specs.Calls.{key_size_at_hand, value_bytes_at_hand}
use Rattle.scx_verify_explain.specs.declared.named.Address.{Address}
use Rattle.scx_verify_explain.specs.declared.named.ValueBytes.{ValueBytes}

-- the register of an operand; none of an immediate
abbrev pub register_in : Operand → Option Register
register_in (operand.Immediate k) = None
register_in (operand.Register r) = Some r

-- ---- registers that are read

-- of an operation on a register and an operand, the first of the two that it reads, and the second
abbrev pub first_of : Operation → Register → Operand → Option Register
first_of Move d x = register_in x
first_of o d x = Some d

-- the second register that an operation reads, that of its operand; a move reads no second one
abbrev pub second_of : Operation → Operand → Option Register
second_of Move x = None
second_of o x = register_in x

-- of an instruction that is no call, the same
abbrev pub first_read : Insn → Option Register
first_read (insn.Binary w o d x) = first_of o d x
first_read (insn.Negate w d) = Some d
first_read (insn.SignExtend e d r) = Some r
first_read (insn.ByteSwap o w d) = Some d
first_read (insn.Load access d r offset) = Some r
first_read (insn.Store s r offset x) = Some r
first_read (insn.JumpIf w k r x offset) = Some r
first_read i = None

-- of an instruction that is no call, the second register that it reads
abbrev pub second_read : Insn → Option Register
second_read (insn.Binary w o d x) = second_of o x
second_read (insn.Store s r offset x) = register_in x
second_read (insn.JumpIf w k r x offset) = register_in x
second_read i = None

-- the helper of a number takes that in the register
pub record Takes (k : ℤ) (r : Register) (p : Parameter) : Type 0 where
  pub helper : Helper
  pub argument : ℕ
  pub there : helper_at k ≡ Some helper
  pub taken : slice_get (parameters helper) argument ≡ Some p
  pub place : number r ≡ argument + 1

-- a call of such a helper
pub record HasArgument (i : Insn) (r : Register) : Type 0 where
  pub called : ℤ
  pub parameter : Parameter
  pub call : i ≡ insn.Call called
  pub takes : Takes called r parameter

-- the instruction reads the register
abbrev pub Reads : Insn → Register → Type 0
Reads i r = (first_read i ≡ Some r) ⊎ (second_read i ≡ Some r) ⊎ HasArgument i r

-- ---- registers that are written or stored

-- the register that an instruction writes, other than those of a call
abbrev pub written_register : Insn → Option Register
written_register (insn.Binary w o d x) = Some d
written_register (insn.Negate w d) = Some d
written_register (insn.SignExtend e d r) = Some d
written_register (insn.ByteSwap o w d) = Some d
written_register (insn.LoadImmediate d low_half high_half) = Some d
written_register (insn.LoadMapReference d k) = Some d
written_register (insn.Load access d r offset) = Some d
written_register i = None

-- the register that a store stores; none of an immediate
abbrev pub stored_register : Insn → Option Register
stored_register (insn.Store s r offset x) = register_in x
stored_register i = None

-- the instruction loads a reference to the map of that number
abbrev pub LoadsMap : Insn → ℤ → Type 0
LoadsMap (insn.LoadMapReference d m) n = m ≡ n
LoadsMap i n = ⊥

-- ---- addresses

-- the address that a load reads or a store writes
abbrev pub address_of : Insn → Option Address
address_of (insn.Load access d r offset) = Some (record {
  base = r;
  offset = offset;
  size = access_size access;
})
address_of (insn.Store s r offset x) = Some (record { base = r; offset = offset; size = s })
address_of i = None

-- true if a helper reads a key
abbrev pub reads_key : Helper → Bool
reads_key MapLookupElem = true
reads_key (OnMap Update) = true
reads_key (OnMap Delete) = true
reads_key (OnMap LookUpPerCpu) = true
reads_key h = false

-- the address of the key that a helper reads, if it reads one
abbrev pub key_address : List Shape → AbsState → Option Helper → Option Address
key_address shapes a None = None
key_address shapes a (Some h) =
    if reads_key h
    then Some (record { base = R2; offset = pos 0; size = key_size_at_hand shapes a })
    else None

-- the address that an instruction reads or writes in a state; of a call it is that of the key
abbrev pub address_in : List Shape → AbsState → Insn → Option Address
address_in shapes a (insn.Call k) = key_address shapes a (helper_at k)
address_in shapes a i = address_of i

-- ---- values of helpers

-- the register that points to the value that a helper reads or writes
abbrev pub value_register : Helper → Option Register
value_register (OnMap Update) = Some R3
value_register (OnMap Push) = Some R2
value_register (OnMap Pop) = Some R2
value_register (OnMap Peek) = Some R2
value_register h = None

-- the bytes of a value of the map at hand, from where that register points
abbrev pub value_from : List Shape → AbsState → Register → ValueBytes
value_from shapes a r = record { base = r; count = value_bytes_at_hand shapes a }

-- the value that a helper reads or writes
abbrev pub value_of : List Shape → AbsState → Option Helper → Option ValueBytes
value_of shapes a None = None
value_of shapes a (Some h) = option_map (value_from shapes a) (value_register h)

-- the value that an instruction reads or writes in a state, if it calls a helper that does
abbrev pub value_in : List Shape → AbsState → Insn → Option ValueBytes
value_in shapes a (insn.Call k) = value_of shapes a (helper_at k)
value_in shapes a i = None
