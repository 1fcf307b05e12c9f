-- Typings of a program: a proper abstract state, or none, for each slot, such that the first one
-- covers the state in which the callback begins, each instruction with a state passes all of its
-- checks, and what flows on from it is covered where it goes.
use Rattle.std.specs.Prelude.{ℕ, ◌+◌, ◌≡◌, Option, Some, None, Ok}
use Rattle.scx_isa_semantics.specs.declared.instructions.Insn.{Insn}
use Rattle.scx_vm.specs.declared.context.Context.{Context}
use Rattle.scx_isa_semantics.specs.Code.{Code, at, size}
use Rattle.scx_isa_semantics.specs.Steps.{target}
use Rattle.scx_isa.specs.Flow.{Flows}
use Rattle.scx_abs.specs.declared.states.AbsState.{AbsState}
use Rattle.scx_abs.specs.declared.rules.Next.{Next}
use Rattle.scx_abs.specs.States.{CoversSome, IsProper, start_of}
use Rattle.scx_abs.specs.Rules.{rule}

-- at each slot an abstract state, or none where no control is known to come
abbrev pub States : Type 0
States = ℕ → Option AbsState

-- there is a slot, it has a state, and that covers the other one
abbrev pub CoversAt : States → Option ℕ → AbsState → Type 0
CoversAt states None a = ⊥
CoversAt states (Some t) a = CoversSome (states t) a

-- what flows on from the instruction at a slot is covered where it goes
pub record CoversNext (states : States) (s : ℕ) (i : Insn) (next : Next) : Type 0 where
  pub on : (a : AbsState) → next.on ≡ Some a → CoversSome (states (s + size i)) a
  pub jump : (a : AbsState) → next.jump ≡ Some a → CoversAt states (target s i) a

-- what flows on from an instruction whose checks all pass is covered
pub record Passes (c : Context) (states : States) (s : ℕ) (i : Insn) (a : AbsState) : Type 0 where
  pub next : Next
  pub passes : rule c i a ≡ Ok next
  pub covered : CoversNext states s i next

-- the states are a typing: proper, covering the start, with all checks passed and all flows covered
pub record IsTyping (c : Context) (code : Code) (states : States) : Type 0 where
  pub proper : (s : ℕ) (a : AbsState) → states s ≡ Some a → IsProper a
  pub start : CoversSome (states 0) (start_of c.callback)
  pub insns : (s : ℕ) (i : Insn) (a : AbsState)
      → at code s ≡ Some i → states s ≡ Some a → Passes c states s i a

-- the program's flow has no fault, and it has a typing
pub record IsTyped (c : Context) (code : Code) : Type 0 where
  pub flows : Flows code
  pub states : States
  pub typing : IsTyping c code states
