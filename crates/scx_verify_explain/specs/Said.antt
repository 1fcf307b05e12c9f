-- A reason is true: it names registers that the instruction reads, writes or stores, with
-- the kinds and bytes that are known before it, and its numbers.
use Rattle.std.specs.Prelude.{◌≡◌, ℕ, ◌+◌, ◌<◌, ◌≤◌, ◌/◌, ◌%◌, ◌⊎◌, ℤ, pos, ◌+ℤ◌, Bool, true, false, IsTrue, IsFalse, List, length, Option, Some, None, Ok, Err, if◌then◌else◌}
use Rattle.scx_isa_semantics.specs.declared.instructions.Insn.{Insn}
use Rattle.scx_isa_semantics.specs.declared.instructions.Insn.TheVariants as insn
use Rattle.scx_isa_semantics.specs.declared.callbacks.Callback.{Callback}
use Rattle.scx_isa_semantics.specs.declared.registers.Register.{Register}
use Rattle.scx_isa_semantics.specs.declared.registers.Register.TheVariants.{R10}
use Rattle.scx_isa_semantics.specs.Registers.{number}
use Rattle.scx_isa_semantics.specs.declared.instructions.Operand.{Operand}
use Rattle.scx_isa_semantics.specs.declared.operations.Width.{Width}
use Rattle.scx_isa_semantics.specs.declared.operations.Operation.{Operation}
use Rattle.scx_isa_semantics.specs.declared.operations.Size.{Size}
use Rattle.scx_isa_semantics.specs.declared.host_tables.Field.{Field}
use Rattle.scx_isa_semantics.specs.declared.host_tables.Helper.{Helper}
use Rattle.scx_isa_semantics.specs.declared.host_tables.Parameter.{Parameter}
use Rattle.scx_isa_semantics.specs.declared.host_tables.Parameter.TheVariants as parameter
use Rattle.scx_isa_semantics.specs.declared.rules.Rules.{Rules}
use Rattle.scx_isa_semantics.specs.HostTables.{field_known, is_writable, helper_known, is_allowed}
use Rattle.scx_isa_semantics.specs.Arithmetic.{at_distance}
use Rattle.scx_isa_semantics.specs.Code.{Code, at, size}
use Rattle.scx_isa_semantics.specs.Meaning.{is_plain}
use Rattle.scx_isa_semantics.specs.Memory.{size_bytes}
use Rattle.scx_isa_semantics.specs.Steps.{distance}
use Rattle.scx_maps.specs.declared.shape.Shape.{Shape}
use Rattle.scx_vm.specs.declared.context.Context.{Context}
use Rattle.scx_abs_ranges.specs.Ranges.{all}
use Rattle.scx_maps.specs.Layout.{shape_at}
use Rattle.scx_abs.specs.Calls.{takes_shape}
use Rattle.scx_abs.specs.declared.faults.Why.TheVariants.{UnknownMap}
use Rattle.scx_abs.specs.declared.kinds.Cell.{Cell}
use Rattle.scx_abs.specs.declared.kinds.Cell.TheVariants.{Bytes, Pointer}
use Rattle.scx_abs.specs.declared.kinds.Kind.{Kind}
use Rattle.scx_abs.specs.declared.kinds.Kind.TheVariants.{Unusable, Num, Stack, Elem, ElemOrNull, Task, TaskOrNull, MapRef}
use Rattle.scx_abs.specs.declared.memory.Area.TheVariants.{OnStack}
use Rattle.scx_abs.specs.declared.states.AbsState.{AbsState}
use Rattle.scx_abs.specs.Cells.{is_written, kind_of}
use Rattle.scx_abs.specs.States.{kind_at, cell_at}
use Rattle.scx_abs.specs.Rules.{area_of, map_kind}
use Rattle.scx_verify_explain.specs.declared.listing.Listing.{Listing}
use Rattle.scx_verify_explain.specs.declared.named.Address.{Address}
use Rattle.scx_verify_explain.specs.declared.named.ValueBytes.{ValueBytes}
use Rattle.scx_verify_explain.specs.declared.reasons.Sort.{Sort}
use Rattle.scx_verify_explain.specs.declared.reasons.Sort.TheVariants as sort
use Rattle.scx_verify_explain.specs.declared.places.Place.{Place}
use Rattle.scx_verify_explain.specs.declared.places.Reach.{Reach}
use Rattle.scx_verify_explain.specs.declared.places.Distances.{Distances}
use Rattle.scx_verify_explain.specs.declared.reasons.BadFlow.{BadFlow}
use Rattle.scx_verify_explain.specs.declared.reasons.BadFlow.TheVariants as flow
use Rattle.scx_verify_explain.specs.declared.reasons.BadValue.{BadValue}
use Rattle.scx_verify_explain.specs.declared.reasons.BadValue.TheVariants as value
use Rattle.scx_verify_explain.specs.declared.reasons.BadAccess.{BadAccess}
use Rattle.scx_verify_explain.specs.declared.reasons.BadAccess.TheVariants as access
use Rattle.scx_verify_explain.specs.declared.reasons.BadField.{BadField}
use Rattle.scx_verify_explain.specs.declared.reasons.BadField.TheVariants as field
use Rattle.scx_verify_explain.specs.declared.reasons.BadCall.{BadCall}
use Rattle.scx_verify_explain.specs.declared.reasons.BadCall.TheVariants as call
use Rattle.scx_verify_explain.specs.declared.reasons.Reason.{Reason}
use Rattle.scx_verify_explain.specs.declared.reasons.Reason.TheVariants as reason
use Rattle.scx_verify_explain.specs.Listings.{known_at}
use Rattle.scx_verify_explain.specs.Named.{Reads, Takes, LoadsMap, written_register, stored_register, address_of, address_in, value_in}
use Rattle.scx_verify_explain.specs.Places.{place_of, distances_of, place_at_distances, reach_of, value_reach, stack_bytes}

-- ---- kinds

-- whether it is known to be a number
abbrev pub is_number : Kind → Bool
is_number (Num r) = true
is_number k = false

-- whether it is known to be a pointer, null or not, or a reference to a map
abbrev pub is_pointer : Kind → Bool
is_pointer Unusable = false
is_pointer (Num r) = false
is_pointer k = true

-- whether it is a pointer that may be null
abbrev pub may_be_null : Kind → Bool
may_be_null (ElemOrNull m) = true
may_be_null TaskOrNull = true
may_be_null k = false

-- a pointer to memory that has bytes of its own
abbrev pub is_in_memory : Kind → Bool
is_in_memory (Stack o) = true
is_in_memory (Elem m r) = true
is_in_memory k = false

-- a pointer to bytes of the stack or of an element, null or not
abbrev pub is_to_bytes : Kind → Bool
is_to_bytes (Stack o) = true
is_to_bytes (Elem m r) = true
is_to_bytes (ElemOrNull m) = true
is_to_bytes k = false

-- a reference to a map of a kind that the parameter takes
abbrev pub is_map_taken : List Shape → Parameter → Kind → Bool
is_map_taken shapes p (MapRef m) = takes_shape p (shape_at shapes m)
is_map_taken shapes p k = false

-- a helper takes a register of that kind, null or not, wherever it points
abbrev pub is_taken : List Shape → Parameter → Kind → Bool
is_taken shapes parameter.Key k = is_to_bytes k
is_taken shapes parameter.Value k = is_to_bytes k
is_taken shapes parameter.Room k = is_to_bytes k
is_taken shapes parameter.Task Task = true
is_taken shapes parameter.Task TaskOrNull = true
is_taken shapes parameter.Task k = false
is_taken shapes parameter.Number (Num r) = true
is_taken shapes parameter.Number k = false
is_taken shapes p k = is_map_taken shapes p k

-- the kind is of the sort that is looked for
abbrev pub IsOf : Sort → Kind → Type 0
IsOf sort.Unusable k = k ≡ Unusable
IsOf sort.Pointer k = IsTrue (is_pointer k)
IsOf sort.MayBeNull k = IsTrue (may_be_null k)

-- ---- bytes of the stack

-- what is known of that byte of a cell
abbrev pub kind_in : Cell → ℕ → Kind
kind_in (Bytes set) j = if is_written set j then Num all else Unusable
kind_in (Pointer k) j = kind_of k

-- what is known of a byte of the stack, counted from the lowest
abbrev pub byte_kind : AbsState → ℕ → Kind
byte_kind a byte = kind_in (cell_at a (byte / 8)) (byte % 8)

-- one of that many bytes of the stack is of that kind
pub record HasByte (a : AbsState) (first n byte : ℕ) (k : Kind) : Type 0 where
  pub from_first : first ≤ byte
  pub before_end : byte < first + n
  pub known : byte_kind a byte ≡ k

-- what is said of that many bytes of the stack from that one on: one isn't written, or is
-- a part of a pointer
abbrev pub IsUnwritten : AbsState → ℕ → ℕ → BadAccess → Type 0
IsUnwritten a first n (access.Unwritten reach byte) =
    (reach ≡ stack_bytes first n) × HasByte a first n byte Unusable
IsUnwritten a first n (access.PartOfPointer reach k) =
    (reach ≡ stack_bytes first n) × ((byte : ℕ) × HasByte a first n byte k) × IsTrue (is_pointer k)
IsUnwritten a first n said = ⊥

-- ---- of each sort of reason

-- what is said of the target of a jump is so; falling off the end says nothing more
abbrev pub IsFlowSaid : Code → ℕ → Insn → BadFlow → Type 0
IsFlowSaid code s i (flow.Back to) = to ≡ pos (s + size i) +ℤ distance i
IsFlowSaid code s i (flow.OutOfProgram to slots) =
    (to ≡ pos (s + size i) +ℤ distance i) × (slots ≡ length code)
IsFlowSaid code s i (flow.IntoWide to) = to ≡ pos (s + size i) +ℤ distance i
IsFlowSaid code s i flow.FallsOff = Unit {0}

-- the instruction reads the register, which holds such a pointer
pub record ReadsPointer (i : Insn) (a : AbsState) (r : Register) (k : Kind) : Type 0 where
  pub reads : Reads i r
  pub holds : kind_at a (number r) ≡ k
  pub pointer : IsTrue (is_pointer k)

-- what is said of a value that an instruction reads, writes, stores or answers is so
abbrev pub IsValueSaid : Callback → Insn → AbsState → BadValue → Type 0
IsValueSaid c i a (value.Unusable r) = Reads i r × (kind_at a (number r) ≡ Unusable)
IsValueSaid c i a value.Frame = written_register i ≡ Some R10
IsValueSaid c i a (value.MayBeNull r) = Reads i r × IsTrue (may_be_null (kind_at a (number r)))
IsValueSaid c i a (value.Arithmetic r k) = ReadsPointer i a r k
IsValueSaid c i a (value.Comparison r k) = ReadsPointer i a r k
IsValueSaid c i a (value.Stored r k) =
    (stored_register i ≡ Some r) × (kind_at a (number r) ≡ k) × IsTrue (is_pointer k)
IsValueSaid c i a (value.Answer k b) =
    (i ≡ insn.Exit) × (kind_at a 0 ≡ k) × IsFalse (is_number k) × (b ≡ c)

-- the instruction is given an address in the stack, from that byte on
pub record IsOnStack (shapes : List Shape) (i : Insn) (a : AbsState) (b : BadAccess) : Type 0 where
  pub address : Address
  pub first : ℕ
  pub given : address_in shapes a i ≡ Some address
  pub area : area_of shapes (kind_at a (number address.base)) address.offset
      (size_bytes address.size) ≡ Ok (OnStack first)
  pub said : IsUnwritten a first (size_bytes address.size) b

-- the instruction calls a helper that reads a value in the stack, from that byte on
pub record IsValueOnStack (shapes : List Shape) (i : Insn) (a : AbsState) (b : BadAccess) : Type 0
  where
    pub bytes : ValueBytes
    pub first : ℕ
    pub given : value_in shapes a i ≡ Some bytes
    pub holds : kind_at a (number bytes.base) ≡ Stack first
    pub said : IsUnwritten a first bytes.count b

-- an address or a value in the stack is said to be unwritten
abbrev pub IsReadOnStack : List Shape → Insn → AbsState → BadAccess → Type 0
IsReadOnStack shapes i a b = IsOnStack shapes i a b ⊎ IsValueOnStack shapes i a b

-- the instruction is given an address that means these bytes
pub record Reaches (shapes : List Shape) (i : Insn) (a : AbsState) (reach : Reach) : Type 0 where
  pub address : Address
  pub given : address_in shapes a i ≡ Some address
  pub reached : reach_of shapes a address ≡ Some reach

-- the instruction calls a helper that reads or writes a value in these bytes
pub record ReachesValue (shapes : List Shape) (i : Insn) (a : AbsState) (reach : Reach) : Type 0
  where
    pub bytes : ValueBytes
    pub given : value_in shapes a i ≡ Some bytes
    pub reached : value_reach shapes a bytes ≡ Some reach

-- it is given an address in a register that holds no pointer to the stack or to an element
pub record HasNoPointer (shapes : List Shape) (i : Insn) (a : AbsState) (r : Register) (k : Kind)
    : Type 0 where
  pub address : Address
  pub given : address_in shapes a i ≡ Some address
  pub base : address.base ≡ r
  pub holds : kind_at a (number r) ≡ k
  pub pointer : IsFalse (is_in_memory k)

-- the instruction would move the pointer in the register to that place
pub record MovesTo (shapes : List Shape) (i : Insn) (a : AbsState) (r : Register) (to : Place)
    : Type 0 where
  pub width : Width
  pub operation : Operation
  pub operand : Operand
  pub from : Place
  pub distances : Distances
  pub moves : i ≡ insn.Binary width operation r operand
  pub was : place_of shapes (kind_at a (number r)) ≡ Some from
  pub far : distances_of a width operation operand ≡ Some distances
  pub place : to ≡ place_at_distances from distances

-- what is said of the bytes that an instruction accesses or moves a pointer to is so
abbrev pub IsAccessSaid : List Shape → Insn → AbsState → BadAccess → Type 0
IsAccessSaid shapes i a (access.Unwritten reach byte) =
    IsReadOnStack shapes i a (access.Unwritten reach byte)
IsAccessSaid shapes i a (access.PartOfPointer reach k) =
    IsReadOnStack shapes i a (access.PartOfPointer reach k)
IsAccessSaid shapes i a (access.NoPointer r k) = HasNoPointer shapes i a r k
IsAccessSaid shapes i a (access.Outside reach) =
    Reaches shapes i a reach ⊎ ReachesValue shapes i a reach
IsAccessSaid shapes i a (access.MovedOut r place) = MovesTo shapes i a r place
IsAccessSaid shapes i a (access.Misaligned reach) = Reaches shapes i a reach

-- the instruction accesses a task at that offset, by that many bytes
pub record AccessesTask (i : Insn) (a : AbsState) (offset : ℤ) (s : Size) : Type 0 where
  pub base : Register
  pub given : address_of i ≡ Some (record { base = base; offset = offset; size = s })
  pub task : kind_at a (number base) ≡ Task

-- that field of a task is accessed, and a machine by these rules has it
pub record AccessesField (by : Rules) (i : Insn) (a : AbsState) (f : Field) : Type 0 where
  pub offset : ℤ
  pub bytes : Size
  pub accesses : AccessesTask i a offset bytes
  pub there : field_known by (size_bytes bytes) (at_distance 0 offset) ≡ Some f

-- whether it loads with a sign
abbrev pub has_sign : Insn → Bool
has_sign (insn.Load x d r offset) = if is_plain x then false else true
has_sign i = false

-- whether it is a store
abbrev pub is_store : Insn → Bool
is_store (insn.Store s r offset x) = true
is_store i = false

-- what is said of the field of a task that an instruction accesses is so by these rules
abbrev pub IsFieldSaid : Rules → Insn → AbsState → BadField → Type 0
IsFieldSaid by i a (field.Missing offset s) =
    AccessesTask i a offset s × (field_known by (size_bytes s) (at_distance 0 offset) ≡ None)
IsFieldSaid by i a (field.Signed f) = AccessesField by i a f × IsTrue (has_sign i)
IsFieldSaid by i a (field.ReadOnly f) =
    AccessesField by i a f × IsTrue (is_store i) × IsFalse (is_writable f)

-- of a call of that number
abbrev pub IsCallSaid : Context → ℤ → AbsState → BadCall → Type 0
IsCallSaid c n a (call.Unknown k) = (k ≡ n) × (helper_known c.rules n ≡ None)
IsCallSaid c n a (call.NotHere k b) =
    (k ≡ n)
    × (b ≡ c.callback)
    × ((h : Helper) × (helper_known c.rules n ≡ Some h) × IsFalse (is_allowed h c.callback))
IsCallSaid c n a (call.Argument k r kind p) =
    (k ≡ n) × Takes n r p × (kind_at a (number r) ≡ kind) × IsFalse (is_taken c.defs p kind)

-- what is said of an instruction that fails a check in a state
abbrev pub IsRuleSaid : Context → Insn → AbsState → Reason → Type 0
IsRuleSaid c i a (reason.Flow b) = ⊥
IsRuleSaid c i a (reason.Value b) = IsValueSaid c.callback i a b
IsRuleSaid c i a (reason.Access b) = IsAccessSaid c.defs i a b
IsRuleSaid c i a (reason.Field b) = IsFieldSaid c.rules i a b
IsRuleSaid c i a (reason.Call b) = (n : ℤ) × (i ≡ insn.Call n) × IsCallSaid c n a b
IsRuleSaid c i a (reason.UnknownMap m n) =
    LoadsMap i m × (map_kind c.defs m ≡ Err UnknownMap) × (n ≡ length c.defs)

-- what is said of the instruction at a slot, before which that is known
abbrev pub IsSaidOf : Listing → ℕ → Insn → Option AbsState → Reason → Type 0
IsSaidOf l s i o (reason.Flow b) = IsFlowSaid l.code.items s i b
IsSaidOf l s i None r = ⊥
IsSaidOf l s i (Some a) r = IsRuleSaid l.context i a r

-- what is said of a slot of a listing
pub record IsSaid (l : Listing) (slot : ℕ) (r : Reason) : Type 0 where
  pub instruction : Insn
  pub there : at l.code.items slot ≡ Some instruction
  pub so : IsSaidOf l slot instruction (known_at l slot) r
