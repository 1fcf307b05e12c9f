-- Registers and cells of a state and of one that it covers: what a check reads there, and the states
-- after both are written.
use Rattle.std.proofs.Common.{◌≡◌, ℕ, ◌<◌, ◌⊎◌, inl, inr, true, false, nat_eq, [], length, Result, Ok, Err, if◌then◌else◌, arith}
use Rattle.std.proofs.lemmas.Bool.{cases_eq}
use Rattle.std.proofs.lemmas.List.{get_or-set_same, get_or-set_other}
use Rattle.scx_isa_semantics.specs.declared.instructions.Operand.{Operand}
use Rattle.scx_isa_semantics.specs.declared.instructions.Operand.TheVariants as operand
use Rattle.scx_isa_semantics.specs.declared.operations.Width.{Width}
use Rattle.scx_isa_semantics.specs.Arithmetic.{immediate}
use Rattle.scx_isa_semantics.proofs.Numbers.{immediate_below}
use Rattle.scx_isa_encoding.specs.Spelling.{IsOperand}
use Rattle.scx_isa_semantics.specs.declared.registers.Register.{Register}
use Rattle.scx_isa_semantics.specs.Registers.{number}
use Rattle.scx_isa_encoding.proofs.Insns.{number_lt}
use Rattle.scx_abs.specs.declared.faults.Why.{Why}
use Rattle.scx_abs.specs.declared.faults.Why.TheVariants.{WritesFrame}
use Rattle.scx_abs_ranges.specs.Ranges.{single}
use Rattle.scx_abs_ranges.proofs.Multiples.{single_range}
use Rattle.scx_abs.specs.declared.kinds.Kind.{Kind}
use Rattle.scx_abs.specs.declared.kinds.Kind.TheVariants.{Unusable, Num}
use Rattle.scx_abs.specs.declared.kinds.Cell.{Cell}
use Rattle.scx_abs.specs.declared.kinds.Cell.TheVariants.{Bytes, Pointer}
use Rattle.scx_abs.specs.declared.states.AbsState.{AbsState}
use Rattle.scx_abs.specs.declared.rules.Next.{Next}
use Rattle.scx_abs.specs.Kinds.{CoversKind, IsProperKind, IsUsable}
use Rattle.scx_abs.specs.Cells.{CoversCell}
use Rattle.scx_abs.specs.States.{CoversState, IsProper, kind_at, cell_at, with_kind, with_cell}
use Rattle.scx_isa_semantics.specs.Results.{◌>>=◌}
use Rattle.scx_abs.specs.Checks.{goes_on, usable, operand_kind, sets}
use Rattle.scx_abs.specs.Monotone.{PassesToo, CoversFlows}
use Rattle.scx_abs.proofs.Lists.{set_each}
use Rattle.scx_abs.proofs.Orders.{kind_itself}
use Rattle.scx_abs.proofs.Proper.{kind_is_proper}

-- ---- one check behind another

-- a check passes where it passes
pub passes_itself : {A : Type 0} (R : A → A → Type 0) (r : Result A Why) → ((x : A) → R x x) → PassesToo R r r
passes_itself R (Err why) h = tt
passes_itself R (Ok x) h = h x

-- one check behind another
pub passes_then : {A B : Type 0} (R : A → A → Type 0) (S : B → B → Type 0) (r s : Result A Why) (f g : A → Result B Why) → PassesToo R r s → ((x y : A) → R x y → PassesToo S (f x) (g y))
    → PassesToo S (r >>= f) (s >>= g)
passes_then R S (Err why) s f g h k = tt
passes_then R S (Ok x) (Err why) f g h k = absurd h
passes_then R S (Ok x) (Ok y) f g h k = k x y h

-- ---- what is written

-- a register that is written, by its number
pub with_kind_covers : (b a : AbsState) (r : ℕ) (j k : Kind) → r < 11 → IsProper a → CoversState b a → CoversKind j k → CoversState (with_kind b r j) (with_kind a r k)
with_kind_covers b a r j k lt p h g = record {
  registers = set_each (λ i l. CoversKind l (kind_at (with_kind a r k) i)) b.registers Unusable r j (λ i. tt) (rw (get_or-set_same a.registers r k Unusable (omega (arith, lt, p.whole.registers))) g)
      (λ i other. rw (get_or-set_other a.registers r i k Unusable other) (h.registers i));
  cells = h.cells;
}

-- a register that is written
pub register_covers : (b a : AbsState) (d : Register) (j k : Kind) → IsProper a → CoversState b a → CoversKind j k → CoversState (with_kind b (number d) j) (with_kind a (number d) k)
register_covers b a d j k p h g = with_kind_covers b a (number d) j k (number_lt d) p h g

-- where the register is written in the first alone
pub refined_covers : (b a : AbsState) (r : ℕ) (j : Kind) → CoversState b a → CoversKind j (kind_at a r) → CoversState (with_kind b r j) a
refined_covers b a r j h g = record {
  registers = set_each (λ i l. CoversKind l (kind_at a i)) b.registers Unusable r j (λ i. tt) g (λ i other. h.registers i);
  cells = h.cells;
}

-- where it is written in the second alone
pub narrowed_covers : (b a : AbsState) (d : Register) (k : Kind) → IsProper a → CoversState b a → CoversKind (kind_at b (number d)) k → CoversState b (with_kind a (number d) k)
narrowed_covers b a d k p h g = record { registers = λ i. go i (cases_eq i (number d)); cells = h.cells }
  where
    inside : number d < length a.registers
    inside = omega (arith, number_lt d, p.whole.registers)

    go : (i : ℕ) → (i ≡ number d) ⊎ (i ≡ number d → ⊥) → CoversKind (kind_at b i) (kind_at (with_kind a (number d) k) i)
    go i (inl e) = rw (e, get_or-set_same a.registers (number d) k Unusable inside) g
    go i (inr other) = rw (get_or-set_other a.registers (number d) i k Unusable other) (h.registers i)

nothing_known : (x : Cell) → CoversCell (Bytes []) x
nothing_known (Bytes a) = λ j lt w. absurd (cc)
nothing_known (Pointer k) = λ j lt w. absurd (cc)

-- a cell that is written
pub with_cell_covers : (b a : AbsState) (c : ℕ) (x y : Cell) → c < 64 → IsProper a → CoversState b a → CoversCell x y → CoversState (with_cell b c x) (with_cell a c y)
with_cell_covers b a c x y lt p h g = record {
  registers = h.registers;
  cells = set_each (λ i z. CoversCell z (cell_at (with_cell a c y) i)) b.cells (Bytes []) c x (λ i. nothing_known (cell_at (with_cell a c y) i))
      (rw (get_or-set_same a.cells c y (Bytes []) (omega (arith, lt, p.whole.cells))) g) (λ i other. rw (get_or-set_other a.cells c i y (Bytes []) other) (h.cells i));
}

-- control that goes on with nothing changed
pub on_monotone : (b a : AbsState) → CoversState b a → PassesToo CoversFlows (goes_on b) (goes_on a)
on_monotone b a h = record { on = h; jump = tt }

sets_refused : (b : AbsState) (r : ℕ) (why : Why) (s : Result Next Why) → PassesToo CoversFlows (sets b r (Err why)) s
sets_refused b r why s = elim (nat_eq r 10) as (λ t. PassesToo CoversFlows (if t then Err WritesFrame else Err why) s) [ true ↦ tt | false ↦ tt ]

-- a kind that is put into a register
pub sets_monotone : (b a : AbsState) (d : Register) (j k : Result Kind Why) → IsProper a → CoversState b a → PassesToo CoversKind j k → PassesToo CoversFlows (sets b (number d) j) (sets a (number d) k)
sets_monotone b a d (Err why) k p h g = sets_refused b (number d) why (sets a (number d) k)
sets_monotone b a d (Ok j) (Err why) p h g = absurd g
sets_monotone b a d (Ok j) (Ok k) p h g =
    elim (nat_eq (number d) 10) as (λ t. PassesToo CoversFlows (if t then Err WritesFrame else goes_on (with_kind b (number d) j)) (if t then Err WritesFrame else goes_on (with_kind a (number d) k)))
    [ true ↦ tt | false ↦ on_monotone (with_kind b (number d) j) (with_kind a (number d) k) (register_covers b a d j k p h g) ]

-- ---- what is read

-- the first covers the second, and both may be read and are proper
abbrev pub CoversUsable : Kind → Kind → Type 0
CoversUsable j k = IsUsable j × CoversKind j k × IsProperKind j × IsProperKind k

-- a kind that is read
pub usable_monotone : (j k : Kind) → CoversKind j k → IsProperKind j → IsProperKind k → PassesToo CoversUsable (usable j) (usable k)
usable_monotone Unusable k h p q = tt
usable_monotone j Unusable h p q = absurd h
usable_monotone j k h p q = (tt, h, p, q)

-- a register that is read
pub read_monotone : (b a : AbsState) (r : Register) → IsProper b → IsProper a → CoversState b a → PassesToo CoversUsable (usable (kind_at b (number r))) (usable (kind_at a (number r)))
read_monotone b a r q p h = usable_monotone (kind_at b (number r)) (kind_at a (number r)) (h.registers (number r)) (kind_is_proper b (number r) q) (kind_is_proper a (number r) p)

-- an operand
pub operand_monotone : (b a : AbsState) (w : Width) (x : Operand) → IsOperand x → IsProper b → IsProper a → CoversState b a → PassesToo CoversUsable (operand_kind b w x) (operand_kind a w x)
operand_monotone b a w (operand.Immediate k) fits q p h =
    let range = single_range (immediate w k) (immediate_below w k fits) in
    (tt, kind_itself (Num (single (immediate w k))), range, range)
operand_monotone b a w (operand.Register r) fits q p h = read_monotone b a r q p h
