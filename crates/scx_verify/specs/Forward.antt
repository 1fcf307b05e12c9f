-- The forward states of a program whose jumps go forward: that of a slot is the least abstract
-- state, a proper one, that covers all that flows to it from the slots before it, and none where
-- nothing does. To the first slot flows the state in which the callback begins. They are defined up
-- to the first instruction at which a check fails, which is the one that is refused.
use Rattle.std.specs.Prelude.{ℕ, ◌+◌, ◌<◌, ◌≤◌, ◌≡◌, ◌⊎◌, Option, Some, None, Ok, Err}
use Rattle.scx_isa_semantics.specs.declared.instructions.Insn.{Insn}
use Rattle.scx_vm.specs.declared.context.Context.{Context}
use Rattle.scx_isa_semantics.specs.Code.{Code, at, size}
use Rattle.scx_isa_semantics.specs.Steps.{target}
use Rattle.scx_abs.specs.declared.faults.Why.{Why}
use Rattle.scx_abs.specs.declared.states.AbsState.{AbsState}
use Rattle.scx_abs.specs.declared.rules.Next.{Next}
use Rattle.scx_abs.specs.States.{CoversState, IsProper, start_of}
use Rattle.scx_abs.specs.Rules.{rule}
use Rattle.scx_verify.specs.Typing.{States}

-- that state goes from the instruction at a slot to another slot
abbrev pub IsSent : ℕ → Insn → Next → ℕ → AbsState → Type 0
IsSent s i next t a =
    ((next.on ≡ Some a) × (t ≡ s + size i)) ⊎ ((next.jump ≡ Some a) × (target s i ≡ Some t))

-- the instruction at a slot has a state and passes its checks, and that state flows
-- to the other slot
pub record FlowsTo (c : Context) (code : Code) (states : States) (s t : ℕ) (a : AbsState)
    : Type 0 where
  pub insn : Insn
  pub state : AbsState
  pub next : Next
  pub there : at code s ≡ Some insn
  pub here : states s ≡ Some state
  pub passes : rule c insn state ≡ Ok next
  pub sent : IsSent s insn next t a

-- that state flows to the slot from a slot before the n-th, or is the one in which the
-- callback begins
abbrev pub Arrives : Context → Code → States → ℕ → ℕ → AbsState → Type 0
Arrives c code states n t a =
    ((t ≡ 0) × (a ≡ start_of c.callback)) ⊎ ((s : ℕ) × (s < n) × FlowsTo c code states s t a)

-- The least state that covers all of these, of which there are some. It is proper, and so there is
-- no second one; it is the least of all states, proper or not.
pub record IsLeastOf (x : AbsState) (P : AbsState → Type 0) : Type 0 where
  pub proper : IsProper x
  pub covers : (a : AbsState) → P a → CoversState x a
  pub least : (y : AbsState) → ((a : AbsState) → P a → CoversState y a) → CoversState y x
  pub some : (a : AbsState) × P a

-- the least state that covers all of these, or none where there are none
abbrev pub IsLeast : Option AbsState → (AbsState → Type 0) → Type 0
IsLeast None P = (a : AbsState) → P a → ⊥
IsLeast (Some x) P = IsLeastOf x P

-- all instructions before that slot pass their checks
abbrev pub PassesBefore : Context → Code → States → ℕ → Type 0
PassesBefore c code states n =
    (s : ℕ) (i : Insn) (a : AbsState)
    → s < n → at code s ≡ Some i → states s ≡ Some a
    → (next : Next) × (rule c i a ≡ Ok next)

-- these are the forward states up to that slot
abbrev pub AreForward : Context → Code → States → ℕ → Type 0
AreForward c code states slot = (t : ℕ) → t ≤ slot → IsLeast (states t) (Arrives c code states t t)

-- The instruction at the slot is the first whose forward state fails a check, and the first check
-- that it fails gives that refusal.
pub record IsFirstRefusal (c : Context) (code : Code) (why : Why) (slot : ℕ) : Type 0 where
  pub states : States
  pub forward : AreForward c code states slot
  pub earlier : PassesBefore c code states slot
  pub insn : Insn
  pub state : AbsState
  pub there : at code slot ≡ Some insn
  pub here : states slot ≡ Some state
  pub fails : rule c insn state ≡ Err why
