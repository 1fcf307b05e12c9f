-- Registers: what a check of one gives against its value, and the state after a register is written.
use Rattle.std.proofs.Common.{◌≡◌, ℕ, ◌*◌, ◌^◌, ◌<◌, true, false, nat_eq, List, Option, Some, None, Result, Ok, Err, if◌then◌else◌, refl, subst, arith}
use Rattle.std.proofs.lemmas.Bool.{eq-eqb, ne_eqb}
use Rattle.scx_isa_semantics.specs.declared.instructions.Operand.{Operand}
use Rattle.scx_isa_semantics.specs.declared.instructions.Operand.TheVariants as operand
use Rattle.scx_isa_semantics.specs.declared.operations.Width.{Width}
use Rattle.scx_isa_semantics.specs.declared.values.Value.{Value}
use Rattle.scx_isa_semantics.specs.declared.values.Value.TheVariants as value
use Rattle.scx_isa_semantics.specs.declared.values.Pointer.TheVariants as pointer
use Rattle.scx_isa_semantics.specs.declared.host_tables.Field.{Field}
use Rattle.scx_isa_semantics.specs.declared.host_tables.TaskId.{TaskId}
use denote.Enum.Bare.{sameb}
use Rattle.scx_isa_semantics.specs.contracts.registers.Register.{the_type}
use Rattle.scx_isa_semantics.specs.declared.registers.Register.{Register}
use Rattle.scx_isa_semantics.specs.declared.registers.Register.TheVariants.{R10}
use Rattle.scx_isa_semantics.specs.Registers.{number}
use Rattle.scx_isa_semantics.specs.Elements.{Maps}
use Rattle.scx_isa_semantics.specs.Machine.{Machine, with_value_at, with_register}
use Rattle.scx_isa_semantics.specs.Effects as effect
use Rattle.scx_isa_semantics.specs.Effects.{Query, Load, Effect, set_register, set_register_by_answer}
use Rattle.scx_isa_semantics.specs.Meaning.{operand_value, is_plain}
use Rattle.scx_isa_semantics.specs.Runs.{IsNumberBelow, IsTaskOrNull, Fits}
use Rattle.scx_isa_semantics.specs.declared.operations.Access.{Access}
use Rattle.scx_isa_semantics.specs.declared.operations.Access.TheVariants as access
use Rattle.scx_isa_semantics.specs.Memory.{size_bytes, access_size}
use Rattle.scx_isa_semantics.specs.HostTables.{field_width}
use Rattle.scx_isa_semantics.specs.Arithmetic.{immediate}
use Rattle.scx_isa_semantics.proofs.Numbers.{immediate_below}
use Rattle.scx_isa_encoding.specs.Spelling.{IsOperand}
use Rattle.scx_maps.specs.declared.shape.Shape.{Shape}
use Rattle.scx_abs.specs.declared.faults.Why.{Why}
use Rattle.scx_abs.specs.declared.faults.Why.TheVariants.{WritesFrame}
use Rattle.scx_abs_ranges.specs.Ranges.{IsIn, all}
use Rattle.scx_abs_ranges.specs.Results.{loaded_range}
use Rattle.scx_abs_ranges.proofs.Multiples.{single_range, in_single, in_all}
use Rattle.scx_abs_ranges.proofs.AllWidths.{loads_are_sound}
use Rattle.scx_abs.specs.declared.kinds.Kind.{Kind}
use Rattle.scx_abs.specs.declared.kinds.Kind.TheVariants.{Unusable, Num, TaskOrNull}
use Rattle.scx_abs.specs.declared.states.AbsState.{AbsState}
use Rattle.scx_abs.specs.Kinds.{IsProperKind, IsUsable}
use Rattle.scx_abs.specs.States.{kind_at, with_kind, IsProper}
use Rattle.scx_abs.specs.Stands.{Stands, IsMember}
use Rattle.scx_isa_semantics.specs.Results.{◌>>=◌}
use Rattle.scx_abs.specs.Checks.{goes_on, usable, operand_kind, sets, gets}
use Rattle.scx_abs.specs.Laws.{IsSoundFor}
use Rattle.scx_abs.proofs.Lists.{set_each}
use Rattle.scx_abs.proofs.Proper.{kind_is_proper}

-- ---- registers that are written

-- r10 is refused, whatever kind it would get
pub frame_refused : (a : AbsState) (r : Register) (k : Result Kind Why) → true ≡ sameb the_type r R10 → Err WritesFrame ≡ sets a (number r) k
frame_refused a R10 (Ok k) e = refl
frame_refused a R10 (Err why) e = refl
frame_refused a r k e = absurd (cc)

-- another register gets it
pub gets_kind : (a : AbsState) (r : Register) (k : Result Kind Why) → false ≡ sameb the_type r R10 → gets a (number r) k ≡ sets a (number r) k
gets_kind a R10 k e = absurd (cc)
gets_kind a r (Ok k) e = refl
gets_kind a r (Err why) e = refl

-- what a rule gives for a register against the value that is put there
abbrev pub Gives : Maps → Result Kind Why → Option Value → Type 0
Gives maps (Err why) o = Unit {0}
Gives maps (Ok k) None = ⊥
Gives maps (Ok k) (Some v) = Stands maps k v

-- a register that is written holds what its kind stands for
pub kind_member : (shapes : List Shape) (a : AbsState) (m : Machine) (r : ℕ) (k : Kind) (v : Value) → IsMember shapes a m → Stands m.maps k v
    → IsMember shapes (with_kind a r k) (with_register m r v)
kind_member shapes a m r k v h g = record {
  registers = set_each (λ j d. Stands m.maps d (with_value_at m.registers r v j)) a.registers Unusable r k
      (λ j. tt)
      (let here : nat_eq r r ≡ true = eq-eqb r r refl in rw here g)
      (λ j n. let other : nat_eq j r ≡ false = ne_eqb j r n in rw other (h.registers j));
  cells = h.cells;
  maps = h.maps;
}

-- the same value, of which more is known
pub refined : (shapes : List Shape) (a : AbsState) (m : Machine) (r : ℕ) (k : Kind) → IsMember shapes a m → Stands m.maps k (m.registers r) → IsMember shapes (with_kind a r k) m
refined shapes a m r k h g = record {
  registers = set_each (λ j d. Stands m.maps d (m.registers j)) a.registers Unusable r k (λ j. tt) g (λ j n. h.registers j);
  cells = h.cells;
  maps = h.maps;
}

-- nothing is claimed of what is refused
pub refused_sound : (shapes : List Shape) (a : AbsState) (r : ℕ) (why : Why) (e : Effect) → IsSoundFor shapes (sets a r (Err why)) e
refused_sound shapes a r why e = elim (nat_eq r 10) as (λ b. IsSoundFor shapes (if b then Err WritesFrame else Err why) e) [ true ↦ tt | false ↦ tt ]

-- a kind that is put into a register, where a value is
pub set_sound : (shapes : List Shape) (a : AbsState) (m : Machine) (r : ℕ) (k : Result Kind Why) (o : Option Value) → IsMember shapes a m → Gives m.maps k o
    → IsSoundFor shapes (sets a r k) (set_register m r o)
set_sound shapes a m r (Err why) o h g = refused_sound shapes a r why (set_register m r o)
set_sound shapes a m r (Ok k) None h g = absurd g
set_sound shapes a m r (Ok k) (Some v) h g =
    elim (nat_eq r 10) as (λ b. IsSoundFor shapes (if b then Err WritesFrame else goes_on (with_kind a r k)) (if b then effect.Stuck else effect.Next (with_register m r v)))
    [ true ↦ tt | false ↦ kind_member shapes a m r k v h g ]

-- the same of the host's answers
pub answer_sound : (shapes : List Shape) (a : AbsState) (m : Machine) (r : ℕ) (k : Kind) (q : Query) → IsMember shapes a m → ((v : Value) → Fits q v → Stands m.maps k v)
    → IsSoundFor shapes (sets a r (Ok k)) (set_register_by_answer m r q)
answer_sound shapes a m r k q h g =
    elim (nat_eq r 10) as (λ b. IsSoundFor shapes (if b then Err WritesFrame else goes_on (with_kind a r k)) (if b then effect.Stuck else effect.Ask q (λ v. with_register m r v)))
    [ true ↦ tt | false ↦ λ v fits. kind_member shapes a m r k v h (g v fits) ]

-- what may be answered
pub number_stands : (maps : Maps) (v : Value) → IsNumberBelow (2 ^ 64) v → Stands maps (Num all) v
number_stands maps (value.Number n) h = in_all n h
number_stands maps v h = absurd h

-- a number of so many bytes is one that a load without a sign may give
plain_in : (a : Access) (n : ℕ) → is_plain a ≡ true → n < 2 ^ (8 * size_bytes (access_size a)) → IsIn n (loaded_range a)
plain_in access.Byte n p h = (loads_are_sound access.Byte).kept n (omega (arith, h))
plain_in access.HalfWord n p h = (loads_are_sound access.HalfWord).kept n (omega (arith, h))
plain_in access.Word n p h = (loads_are_sound access.Word).kept n (omega (arith, h))
plain_in access.DoubleWord n p h = in_all n h
plain_in a n p h = absurd (cc)

-- what a field holds is a number of its bytes
pub field_stands : (maps : Maps) (t : TaskId) (f : Field) (a : Access) (v : Value) → is_plain a ≡ true → field_width f ≡ size_bytes (access_size a) → Fits (Load t f) v → Stands maps (Num (loaded_range a)) v
field_stands maps t f a (value.Number n) p e h = plain_in a n p (subst (λ w. n < 2 ^ (8 * w)) e h)
field_stands maps t f a v p e h = absurd h

-- a task or 0 is what the kind of both stands for
pub task_or_null_fits : (maps : Maps) (v : Value) → IsTaskOrNull v → Stands maps TaskOrNull v
task_or_null_fits maps (value.Number n) h = h
task_or_null_fits maps (value.Pointer (pointer.Task t)) h = tt
task_or_null_fits maps v h = absurd h

-- ---- registers that are read

-- what a check of a register gives against its value
abbrev pub Allows : Maps → Result Kind Why → Value → Type 0
Allows maps (Err why) v = Unit {0}
Allows maps (Ok k) v = IsUsable k × IsProperKind k × Stands maps k v

-- a kind that may be read stands for the value that is
pub usable_allows : (maps : Maps) (k : Kind) (v : Value) → IsProperKind k → Stands maps k v → Allows maps (usable k) v
usable_allows maps Unusable v p h = tt
usable_allows maps k v p h = (tt, p, h)

-- that of a register
pub register_allows : (shapes : List Shape) (a : AbsState) (m : Machine) (r : Register) → IsProper a → IsMember shapes a m → Allows m.maps (usable (kind_at a (number r))) (m.registers (number r))
register_allows shapes a m r p h = usable_allows m.maps (kind_at a (number r)) (m.registers (number r)) (kind_is_proper a (number r) p) (h.registers (number r))

-- the kind of an operand stands for its value
pub operand_allows : (shapes : List Shape) (a : AbsState) (m : Machine) (w : Width) (x : Operand) → IsOperand x → IsProper a → IsMember shapes a m → Allows m.maps (operand_kind a w x) (operand_value m w x)
operand_allows shapes a m w (operand.Immediate k) fits p h = (tt, single_range (immediate w k) (immediate_below w k fits), in_single (immediate w k))
operand_allows shapes a m w (operand.Register r) fits p h = register_allows shapes a m r p h

-- what holds of every refusal, and behind the check, holds of both
pub checked : {B : Type 0} (maps : Maps) (r : Result Kind Why) (v : Value) (f : Kind → Result B Why) (P : Result B Why → Type 0)
    → ((why : Why) → P (Err why)) → Allows maps r v → ((k : Kind) → IsUsable k → IsProperKind k → Stands maps k v → P (f k)) → P (r >>= f)
checked maps (Err why) v f P none h ok = none why
checked maps (Ok k) v f P none h ok = ok k h.0 h.1 h.2
