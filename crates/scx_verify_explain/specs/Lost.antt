-- Where the greatest number in a register comes from: instructions on one way by which control
-- came, and that no other control comes between.
use Rattle.std.specs.Prelude.{◌≡◌, ℕ, ◌+◌, ◌<◌, ◌⊎◌, Bool, true, false, ◌||◌, not, nat_eq, nat_le, List, [], ◌∷◌, Option, Some, None, option_map, Result, Ok, Err, IfSome, if◌then◌else◌}
use Rattle.scx_isa_semantics.specs.declared.instructions.Insn.{Insn}
use Rattle.scx_isa_semantics.specs.declared.instructions.Insn.TheVariants as insn
use Rattle.scx_isa_semantics.specs.declared.instructions.Operand.{Operand}
use Rattle.scx_isa_semantics.specs.declared.instructions.Operand.TheVariants as operand
use Rattle.scx_isa_semantics.specs.declared.operations.Width.{Width}
use Rattle.scx_isa_semantics.specs.declared.operations.Width.TheVariants.{Bits64}
use Rattle.scx_isa_semantics.specs.declared.operations.Operation.{Operation}
use Rattle.scx_isa_semantics.specs.declared.operations.Operation.TheVariants.{Add, Move}
use Rattle.scx_isa_semantics.specs.declared.registers.Register.{Register}
use Rattle.scx_isa_semantics.specs.Registers.{number}
use Rattle.scx_isa_semantics.specs.Code.{at, size}
use Rattle.scx_vm.specs.declared.context.Context.{Context}
use Rattle.scx_abs.specs.declared.faults.Why.{Why}
use Rattle.scx_abs.specs.declared.kinds.Kind.{Kind}
use Rattle.scx_abs.specs.declared.kinds.Kind.TheVariants.{Num, Elem}
use Rattle.scx_abs.specs.declared.states.AbsState.{AbsState}
use Rattle.scx_abs.specs.declared.rules.Next.{Next}
use Rattle.scx_abs.specs.States.{kind_at}
use Rattle.scx_abs.specs.Rules.{rule}
use Rattle.scx_verify_explain.specs.declared.listing.Listing.{Listing}
use Rattle.scx_verify_explain.specs.declared.listing.Way.{Way}
use Rattle.scx_verify_explain.specs.declared.listing.Way.TheVariants as way
use Rattle.scx_verify_explain.specs.declared.listing.Arrival.{Arrival}
use Rattle.scx_verify_explain.specs.declared.origins.Brought.{Brought}
use Rattle.scx_verify_explain.specs.declared.lost.Point.{Point}
use Rattle.scx_verify_explain.specs.declared.lost.Role.{Role}
use Rattle.scx_verify_explain.specs.declared.lost.Role.TheVariants as role
use Rattle.scx_verify_explain.specs.declared.lost.Sought.{Sought}
use Rattle.scx_verify_explain.specs.declared.lost.Sought.TheVariants as sought
use Rattle.scx_verify_explain.specs.declared.lost.Found.{Found}
use Rattle.scx_verify_explain.specs.declared.lost.Walk.{Walk}
use Rattle.scx_verify_explain.specs.declared.lost.Step.{Step}
use Rattle.scx_verify_explain.specs.declared.lost.Step.TheVariants as step
use Rattle.scx_verify_explain.specs.declared.lost.LostRange.{LostRange}
use Rattle.scx_verify_explain.specs.declared.named.Address.{Address}
use Rattle.scx_verify_explain.specs.Listings.{known_at}
use Rattle.scx_verify_explain.specs.Leading.{target_of}
use Rattle.scx_verify_explain.specs.Named.{written_register, address_of}

-- ---- control that comes to a slot

-- the slot to which that way leads from an instruction, if it leads forward
abbrev pub led_to : Way → ℕ → Insn → Option ℕ
led_to way.On s i = Some (s + size i)
led_to way.Jump s i = target_of s i

-- the state that flows on by that way
abbrev pub sent_by : Way → Next → Option AbsState
sent_by way.On next = next.on
sent_by way.Jump next = next.jump

-- a slot is there, and is that one
abbrev pub is_slot : Option ℕ → ℕ → Bool
is_slot None t = false
is_slot (Some s) t = nat_eq s t

-- the arrival with that state
abbrev pub arriving : ℕ → Way → AbsState → Arrival
arriving s w x = record { from = s; way = w; state = x }

-- the arrival by what flows on
abbrev pub arrival_by : ℕ → Way → Result Next Why → Option Arrival
arrival_by s w (Err why) = None
arrival_by s w (Ok next) = option_map (arriving s w) (sent_by w next)

-- the arrival from an instruction, if it and its state are there
abbrev pub arrival_in : Context → ℕ → Way → ℕ → Option Insn → Option AbsState → Option Arrival
arrival_in c s w t None a = None
arrival_in c s w t (Some i) None = None
arrival_in c s w t (Some i) (Some a) =
    if is_slot (led_to w s i) t then arrival_by s w (rule c i a) else None

-- what comes from one slot to another by that way
abbrev pub arrival_from : Listing → ℕ → Way → ℕ → Option Arrival
arrival_from l s w t = arrival_in l.context s w t (at l.code.items s) (known_at l s)

-- the kind of a register that comes from one slot to another by that way
abbrev pub kind_brought : Listing → ℕ → Way → ℕ → Register → Option Kind
kind_brought l s w t r = option_map (λ a. kind_at a.state (number r)) (arrival_from l s w t)

-- if control comes to a slot from the other, that is the one
abbrev pub IsOnlyOf : Listing → ℕ → ℕ → ℕ → Type 0
IsOnlyOf l from other t =
    (w : Way) (arrival : Arrival) → arrival_from l other w t ≡ Some arrival → other ≡ from

-- control comes to a slot from that one alone; it never comes from the slot itself or a later one
abbrev pub IsOnly : Listing → ℕ → ℕ → Type 0
IsOnly l from t = (other : ℕ) → other < t → IsOnlyOf l from other t

-- control never comes from one slot to the other
abbrev pub NeverLeads : Listing → ℕ → ℕ → Type 0
NeverLeads l s t = (w : Way) (arrival : Arrival) → arrival_from l s w t ≡ Some arrival → ⊥

-- ---- what an instruction does with a register

-- the same register
abbrev pub is_same : Register → Register → Bool
is_same q r = nat_eq (number q) (number r)

-- an operand is that register
abbrev pub is_operand : Operand → Register → Bool
is_operand (operand.Immediate k) r = false
is_operand (operand.Register q) r = is_same q r

-- a register is there, and is that one
abbrev pub is_register : Option Register → Register → Bool
is_register None r = false
is_register (Some q) r = is_same q r

-- what arithmetic does with its destination
abbrev pub computed_role : Width → Operation → Operand → Role
computed_role Bits64 Move (operand.Register q) = role.Copied q
computed_role Bits64 Move (operand.Immediate k) = role.Written
computed_role Bits64 Add (operand.Register q) = role.Moved q
computed_role Bits64 o (operand.Immediate k) = role.Computed
computed_role w o x = role.Written

-- what a conditional jump does with a register
abbrev pub compared_role : Register → Operand → Register → Role
compared_role d x r = if is_same d r || is_operand x r then role.Compared else role.Untouched

-- what is done with a register that is written, or isn't
abbrev pub written_role : Bool → Role
written_role written = if written then role.Written else role.Untouched

-- a call leaves nothing of r0 to r5
abbrev pub role_of : Insn → Register → Role
role_of (insn.Binary w o d x) r = if is_same d r then computed_role w o x else role.Untouched
role_of (insn.JumpIf w c d x distance) r = compared_role d x r
role_of (insn.Call k) r = written_role (nat_le (number r) 5)
role_of i r = written_role (is_register (written_register i) r)

-- the register from which a register's value comes; none where it is new
abbrev pub source_by : Role → Register → Option Register
source_by (role.Copied q) r = Some q
source_by (role.Moved q) r = None
source_by role.Written r = None
source_by k r = Some r

-- ---- the greatest number

-- the greatest number of a kind, or the greatest offset
abbrev pub greatest : Kind → Option ℕ
greatest (Num r) = Some r.high
greatest (Elem m r) = Some r.high
greatest k = None

-- the same number, or none of both
abbrev pub is_same_greatest : Option ℕ → Option ℕ → Bool
is_same_greatest None None = true
is_same_greatest (Some n) (Some m) = nat_eq n m
is_same_greatest n m = false

-- what is known of a register at a slot, where anything is
abbrev pub kind_before : Listing → Point → Option Kind
kind_before l p = option_map (λ a. kind_at a (number p.register)) (known_at l p.slot)

-- the greatest number that is known
abbrev pub greatest_in : Option Kind → Option ℕ
greatest_in None = None
greatest_in (Some k) = greatest k

-- the greatest number that is known of a register at a slot
abbrev pub greatest_before : Listing → Point → Option ℕ
greatest_before l p = greatest_in (kind_before l p)

-- the instruction does what is looked for with a register, with its greatest number before it and
-- after it
abbrev pub is_sought : Sought → Role → Option ℕ → Option ℕ → Bool
is_sought sought.Write role.Written before after = true
is_sought sought.Write role.Computed before after =
    not (is_same_greatest before after)
is_sought sought.Write (role.Moved q) before after = true
is_sought sought.Move (role.Moved q) before after = true
is_sought sought.Comparison role.Compared before after = true
is_sought sought.Cut role.Compared before after =
    not (is_same_greatest before after)
is_sought s k before after = false

-- a slot before a point brings to it the greatest number that is known there, in that kind
pub record BringsGreatest (l : Listing) (p : Point) (brought : Brought) : Type 0 where
  pub way : Way
  pub earlier : brought.from < p.slot
  pub brings : kind_brought l brought.from way p.slot p.register ≡ Some brought.kind
  pub same : is_same_greatest (greatest brought.kind) (greatest_before l p) ≡ true

-- an instruction by which control comes to a point with the greatest number, and what is known of
-- the register before it
pub record Passes (l : Listing) (p : Point) (brought : Brought) (i : Insn) (before : Kind)
    : Type 0 where
  pub brings : BringsGreatest l p brought
  pub there : at l.code.items brought.from ≡ Some i
  pub before_it : kind_before l (record { slot = brought.from; register = p.register })
      ≡ Some before

-- it does what is looked for
abbrev pub is_sought_by : Sought → Register → Insn → Kind → Kind → Bool
is_sought_by wanted r i before after =
    is_sought wanted (role_of i r) (greatest before) (greatest after)

-- from a point to the next, nothing that is looked for is done
pub record Leads (l : Listing) (wanted : Sought) (from to : Point) : Type 0 where
  pub brought : Brought
  pub instruction : Insn
  pub before : Kind
  pub passes : Passes l to brought instruction before
  pub unsought : is_sought_by wanted to.register instruction before brought.kind ≡ false
  pub slot : from.slot ≡ brought.from
  pub register : source_by (role_of instruction to.register) to.register ≡ Some from.register

-- from a point by these to another
abbrev pub IsTrack : Listing → Sought → Point → List Point → Point → Type 0
IsTrack l wanted start [] p = p ≡ start
IsTrack l wanted start (q ∷ track) p = Leads l wanted p q × IsTrack l wanted start track q

-- control comes to each of the points from the one before it alone, and to the first from that slot
abbrev pub AreOnly : Listing → List Point → ℕ → Type 0
AreOnly l [] s = Unit {0}
AreOnly l (q ∷ track) s = IsOnly l s q.slot × AreOnly l track q.slot

-- by that instruction control comes to a point, and it does what is looked for with the register
pub record IsFoundAt (l : Listing) (p : Point) (wanted : Sought) (found : Found) : Type 0 where
  pub register : found.register ≡ p.register
  pub passes : Passes l p (record { from = found.slot; kind = found.after }) found.instruction
      found.before
  pub sought : is_sought_by wanted p.register found.instruction found.before found.after ≡ true

-- The last instruction before a point, on one way by which control came, that does what is looked
-- for. On that way each slot had the greatest number of the register from the one before.
pub record IsFound (l : Listing) (start : Point) (wanted : Sought) (found : Found) : Type 0 where
  pub track : List Point
  pub point : Point
  pub led : IsTrack l wanted start track point
  pub here : IsFoundAt l point wanted found
  pub only : found.is_only ≡ true → AreOnly l (point ∷ track) found.slot

-- ---- going back

-- a way back that came to a point, and whether control always came by it
pub record IsWalk (l : Listing) (start : Point) (wanted : Sought) (walk : Walk) : Type 0 where
  pub track : List Point
  pub led : IsTrack l wanted start track walk.point
  pub only : walk.is_only ≡ true → AreOnly l track walk.point.slot

-- control came to a point from that slot alone, and always by the way back
abbrev pub IsOnlyStep : Listing → Walk → ℕ → Bool → Type 0
IsOnlyStep l walk from only = only ≡ true → (walk.is_only ≡ true) × IsOnly l from walk.point.slot

-- a step back by an instruction
abbrev pub IsStepBy : Sought → Found → Step → Type 0
IsStepBy wanted passed (step.Found found) =
    (found ≡ passed)
    × (is_sought_by wanted passed.register passed.instruction passed.before passed.after ≡ true)
IsStepBy wanted passed (step.Earlier earlier) =
    (is_sought_by wanted passed.register passed.instruction passed.before passed.after ≡ false)
    × (earlier.point.slot ≡ passed.slot)
    × (earlier.is_only ≡ passed.is_only)
    × (source_by (role_of passed.instruction passed.register) passed.register
    ≡ Some earlier.point.register)

-- a step back from a point
abbrev pub IsStep : Listing → Sought → Walk → Step → Type 0
IsStep l wanted walk (step.Found found) =
    IsFoundAt l walk.point wanted found × IsOnlyStep l walk found.slot found.is_only
IsStep l wanted walk (step.Earlier earlier) =
    Leads l wanted earlier.point walk.point
    × IsOnlyStep l walk earlier.point.slot earlier.is_only

-- ---- the number that moved a pointer

-- The number that an instruction adds to a pointer, and where it comes from: the last instruction
-- that made it or changed its greatest value, the last comparison that did so, and the last
-- comparison of all; and the last move of the pointer before it.
pub record IsTraced (l : Listing) (pointer : Point) (i : Insn) (is_only : Bool) (lost : LostRange)
    : Type 0 where
  pub pointer_is : lost.pointer ≡ pointer
  pub only : lost.is_only ≡ is_only
  pub added : role_of i pointer.register ≡ role.Moved lost.number
  pub known : kind_before l (record { slot = pointer.slot; register = lost.number })
      ≡ Some lost.known
  pub moved : IfSome lost.moved (IsFound l pointer sought.Move)
  pub write : IfSome lost.write
      (IsFound l (record { slot = pointer.slot; register = lost.number }) sought.Write)
  pub cut : IfSome lost.cut
      (IsFound l (record { slot = pointer.slot; register = lost.number }) sought.Cut)
  pub comparison : IfSome lost.comparison
      (IsFound l (record { slot = pointer.slot; register = lost.number }) sought.Comparison)

-- the number that the instruction at a slot adds to a pointer
pub record IsLostByMove (l : Listing) (s : ℕ) (lost : LostRange) : Type 0 where
  pub instruction : Insn
  pub there : at l.code.items s ≡ Some instruction
  pub pointer : Register
  pub traced : IsTraced l (record { slot = s; register = pointer }) instruction true lost

-- the number that was last added to the pointer to which the instruction at a slot has access
pub record IsLostByAccess (l : Listing) (s : ℕ) (lost : LostRange) : Type 0 where
  pub instruction : Insn
  pub there : at l.code.items s ≡ Some instruction
  pub address : Address
  pub access : address_of instruction ≡ Some address
  pub move : Found
  pub found : IsFound l (record { slot = s; register = address.base }) sought.Move move
  pub traced : IsTraced l (record { slot = move.slot; register = move.register }) move.instruction
      move.is_only lost

-- the number by which a pointer came out of its memory before the instruction at a slot, or in it
abbrev pub IsLostAt : Listing → ℕ → LostRange → Type 0
IsLostAt l s lost = IsLostByMove l s lost ⊎ IsLostByAccess l s lost
