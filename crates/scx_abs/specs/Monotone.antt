-- The laws of rules and joins against the order. Rules are monotone: what passes in a state passes
-- in each state that it covers, and what flows on is covered too; so no check is stronger where
-- more is known. A join is the least that covers both, and grows with each.
use Rattle.std.specs.Prelude.{Option, Result, Ok, Err, IfSome}
use Rattle.scx_isa_semantics.specs.declared.instructions.Insn.{Insn}
use Rattle.scx_isa_encoding.specs.Spelling.{IsInsn}
use Rattle.scx_vm.specs.declared.context.Context.{Context}
use Rattle.scx_abs.specs.declared.faults.Why.{Why}
use Rattle.scx_abs.specs.declared.kinds.Kind.{Kind}
use Rattle.scx_abs.specs.declared.kinds.Cell.{Cell}
use Rattle.scx_abs.specs.declared.states.AbsState.{AbsState}
use Rattle.scx_abs.specs.declared.rules.Next.{Next}
use Rattle.scx_abs.specs.Kinds.{IsLeastCover, CoversKind, join_kind}
use Rattle.scx_abs.specs.Cells.{CoversCell, join_cell}
use Rattle.scx_abs.specs.States.{CoversState, CoversSome, IsProper}
use Rattle.scx_abs.specs.Rules.{rule}

-- ---- rules

-- where the first passes the second passes too, and what they give is in the relation
abbrev pub PassesToo : {A : Type 0} → (A → A → Type 0) → Result A Why → Result A Why → Type 0
PassesToo R (Err why) s = Unit {0}
PassesToo R (Ok x) (Err why) = ⊥
PassesToo R (Ok x) (Ok y) = R x y

-- where the second is a state, so is the first, which covers it
abbrev pub CoversIfAny : Option AbsState → Option AbsState → Type 0
CoversIfAny o p = IfSome p (CoversSome o)

-- what flows on by the first covers what does by the second
pub record CoversFlows (next other : Next) : Type 0 where
  pub on : CoversIfAny next.on other.on
  pub jump : CoversIfAny next.jump other.jump

-- An instruction that passes in a proper state passes in each proper one that this covers, and what
-- flows on is covered. The instruction's numbers fit their fields.
abbrev pub RulesAreMonotone : Type 0
RulesAreMonotone =
    (c : Context) (i : Insn) (b a : AbsState)
    → IsInsn i → IsProper b → IsProper a → CoversState b a
    → PassesToo CoversFlows (rule c i b) (rule c i a)

-- ---- joins

-- `join_kind` gives the least kind that covers both
abbrev pub JoinOfKindsIsLeast : Type 0
JoinOfKindsIsLeast = (j k : Kind) → IsLeastCover CoversKind (join_kind j k) j k

-- `join_cell` gives the least cell that covers both
abbrev pub JoinOfCellsIsLeast : Type 0
JoinOfCellsIsLeast = (x y : Cell) → IsLeastCover CoversCell (join_cell x y) x y

-- The join of two states covers that of two states that they cover.
abbrev pub JoinsAreMonotone : Type 0
JoinsAreMonotone =
    (x y a b c d : AbsState)
    → IsLeastCover CoversState x a b → IsLeastCover CoversState y c d → CoversState a c
    → CoversState b d → CoversState x y
