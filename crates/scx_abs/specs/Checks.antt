-- Checks, one after another: the first that fails is the refusal, and those after it aren't
-- looked at.
use Rattle.std.specs.Prelude.{ℕ, ◌+◌, ◌%◌, nat_eq, nat_le, ℤ, List, Option, Some, None, slice_get, Result, Ok, Err, ok_or, if◌then◌else◌}
use Rattle.scx_isa_semantics.specs.declared.instructions.Operand.{Operand}
use Rattle.scx_isa_semantics.specs.declared.instructions.Operand.TheVariants as operand
use Rattle.scx_isa_semantics.specs.declared.operations.Width.{Width}
use Rattle.scx_isa_semantics.specs.declared.operations.Width.TheVariants.{Bits64}
use Rattle.scx_isa_semantics.specs.Arithmetic.{immediate}
use Rattle.scx_isa_semantics.specs.Registers.{number}
use Rattle.scx_isa_semantics.specs.Memory.{within}
use Rattle.scx_maps.specs.declared.shape.Shape.{Shape}
use Rattle.scx_abs_ranges.specs.declared.ranges.Range.{Range}
use Rattle.scx_abs_ranges.specs.Ranges.{single}
use Rattle.scx_abs_ranges.specs.Offsets.{are_inside, are_aligned}
use Rattle.scx_abs.specs.declared.faults.Why.{Why}
use Rattle.scx_abs.specs.declared.faults.Why.TheVariants.{UnusableRegister, WritesFrame, OutOfBounds, Misaligned}
use Rattle.scx_abs.specs.declared.kinds.Kind.{Kind}
use Rattle.scx_abs.specs.declared.kinds.Kind.TheVariants.{Unusable, Num}
use Rattle.scx_abs.specs.declared.states.AbsState.{AbsState}
use Rattle.scx_abs.specs.declared.rules.Next.{Next}
use Rattle.scx_abs.specs.States.{kind_at, with_kind}

-- ---- what flows on

-- what flows on: a state to the next instruction, one to the jump's target, or none
abbrev pub flows : Option AbsState → Option AbsState → Next
flows on jump = record { on = on; jump = jump }

-- to the next instruction alone
abbrev pub goes_on : AbsState → Result Next Why
goes_on a = Ok (flows (Some a) None)

-- ---- registers

-- a kind that may be read
abbrev pub usable : Kind → Result Kind Why
usable Unusable = Err UnusableRegister
usable k = Ok k

-- an operand of that width
abbrev pub operand_kind : AbsState → Width → Operand → Result Kind Why
operand_kind a w (operand.Immediate k) = Ok (Num (single (immediate w k)))
operand_kind a w (operand.Register r) = usable (kind_at a (number r))

-- the constant that all 64 bits of a register are compared with
abbrev pub constant_of : Width → Operand → Option ℕ
constant_of Bits64 (operand.Immediate k) = Some (immediate Bits64 k)
constant_of w o = None

-- a register gets the kind that a check answers; r10 gets none
abbrev pub sets : AbsState → ℕ → Result Kind Why → Result Next Why
sets a r (Err why) = if nat_eq r 10 then Err WritesFrame else Err why
sets a r (Ok k) = if nat_eq r 10 then Err WritesFrame else goes_on (with_kind a r k)

-- a register that isn't r10 gets the kind that a check answers
abbrev pub gets : AbsState → ℕ → Result Kind Why → Result Next Why
gets a r (Err why) = Err why
gets a r (Ok k) = goes_on (with_kind a r k)

-- ---- offsets

-- how many bytes the elements of a map have; those of a map that isn't there have none
abbrev pub size_of : Option Shape → ℕ
size_of None = 0
size_of (Some s) = s.value_size

-- how many bytes the elements of the map of that number have; 0 where there is no such map
abbrev pub element_size : List Shape → ℕ → ℕ
element_size shapes m = size_of (slice_get shapes m)

-- the offset, if it lies in that many bytes of memory or just after the last
abbrev pub offset_within : ℕ → Option ℕ → Result ℕ Why
offset_within size at = ok_or (within size at) OutOfBounds

-- the offset, if n bytes from it on lie in that many bytes of memory and it is a multiple of n
abbrev pub offset_for : ℕ → ℕ → Option ℕ → Result ℕ Why
offset_for size n None = Err OutOfBounds
offset_for size n (Some at) =
    if nat_le (at + n) size then if nat_eq (at % n) 0 then Ok at else Err Misaligned
    else Err OutOfBounds

-- whether, that distance on from each of the offsets in an element of that size, n bytes lie in
-- it and the place is a multiple of n
abbrev pub offsets_for : ℕ → ℕ → Range → ℤ → Result (Unit {0}) Why
offsets_for size n r k =
    if are_inside size n r k then if are_aligned n r k then Ok tt else Err Misaligned
    else Err OutOfBounds
