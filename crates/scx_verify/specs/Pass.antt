-- One pass over the slots in order, as far as it has come: the states that it finds are the least
-- that cover all that flows there from the slots that it has visited. It holds one in place, and
-- those that jumps sent further ahead.
use Rattle.std.specs.Prelude.{ℕ, ◌+◌, ◌<◌, ◌≤◌, ◌≡◌, ◌⊎◌, List, [], length, map, set, slice_index, slice_index_or, Option, Some, None, Result, Ok, Err, if◌then◌else◌}
use Rattle.scx_isa_semantics.specs.declared.instructions.Insn.{Insn}
use Rattle.scx_isa_semantics.specs.Code.{at}
use Rattle.scx_vm.specs.Packed.{op_of_packed}
use Rattle.scx_abs.specs.declared.faults.Why.{Why}
use Rattle.scx_abs.specs.declared.rules.Next.{Next}
use Rattle.scx_abs.specs.Rules.{rule}
use Rattle.scx_verify.specs.declared.faults.Fault.TheVariants.{Rule, NoMemory}
use Rattle.scx_verify.specs.declared.faults.VerifyError.{VerifyError}
use Rattle.scx_verify.specs.declared.pass.Walk.{Walk}
use Rattle.scx_verify.specs.declared.position_table.Positions.{Positions}
use Rattle.scx_verify.specs.declared.position_table.Positions.TheVariants.{Slots, Counted}
use Rattle.scx_isa.specs.Flow.{Flows}
use Rattle.scx_isa.specs.Spelling.{IsProgram}
use Rattle.scx_verify.specs.Operations.{position, IsBuilt}
use Rattle.scx_vm.specs.declared.context.Context.{Context}
use Rattle.scx_isa_semantics.specs.Code.{Code}
use Rattle.scx_abs.specs.declared.states.AbsState.{AbsState}
use Rattle.scx_abs.specs.Kinds.{IsLeastCover}
use Rattle.scx_abs.specs.States.{CoversState, IsProper}
use Rattle.scx_verify.specs.Typing.{States}
use Rattle.scx_verify.specs.Forward.{Arrives, IsLeast, PassesBefore}

-- the states of a list, slot by slot
abbrev pub states_of : List (Option AbsState) → States
states_of states s = slice_index_or states s None

-- the slots before the n-th were visited
pub record IsVisited (c : Context) (code : Code) (n : ℕ) (states : List (Option AbsState))
    : Type 0 where
  pub long : length states ≡ length code
  pub least : (t : ℕ) → IsLeast (states_of states t) (Arrives c code (states_of states) n t)
  pub passes : PassesBefore c code (states_of states) n

-- what is kept where a state comes to another one, or to none
abbrev pub IsMerged : Option AbsState → AbsState → AbsState → Type 0
IsMerged None a x = x ≡ a
IsMerged (Some b) a x = IsLeastCover CoversState x b a × (IsProper b → IsProper a → IsProper x)

-- a state, if there is one, came to the slot
abbrev pub IsGiven : List (Option AbsState) → ℕ → Option AbsState → List (Option AbsState) → Type 0
IsGiven states t None after = after ≡ states
IsGiven states t (Some a) after =
    (x : AbsState) × IsMerged (states_of states t) a x × (after ≡ set states t (Some x))

-- ---- where the pass is

-- what is kept of the positions of a program's slots and of its end
abbrev pub ArePositions : Code → Positions → Type 0
ArePositions code Slots = (t : ℕ) → t ≤ length code → t ≡ position code t
ArePositions code (Counted ps) =
    (length ps.items ≡ length code + 1)
    × ((t : ℕ) → t ≤ length code → slice_index ps.items t ≡ position code t)

-- An instruction begins at the slot, in a program whose control goes forward, and these are the
-- positions of its slots and of its end.
pub record IsPlace (code : Code) (ps : Positions) (s : ℕ) (i : Insn) : Type 0 where
  pub flows : Flows code
  pub program : IsProgram code
  pub there : at code s ≡ Some i
  pub positions : ArePositions code ps

-- ---- what the pass holds

-- the state at the slot, if control comes there
abbrev pub is_here : Walk → Option AbsState
is_here walk = if walk.live then Some walk.state else None

-- what there is where a state, if there is one, came to another one, or to none
abbrev pub IsAdded : Option AbsState → Option AbsState → Option AbsState → Type 0
IsAdded o None after = after ≡ o
IsAdded o (Some a) after = (x : AbsState) × IsMerged o a x × (after ≡ Some x)

-- before the first slot
pub record IsBeforeFirst (slots : ℕ) (a : AbsState) (walk : Walk) : Type 0 where
  pub here : is_here walk ≡ Some a
  pub ahead : (t : ℕ) → states_of walk.ahead t ≡ None
  pub long : length walk.ahead ≡ slots + 1
  pub ops : walk.ops.items ≡ []

-- An instruction begins at the slot, or the program ends. The state there and those that are kept
-- ahead are the ones of a list of all states, and the operations so far are chosen by it.
pub record IsWalked (c : Context) (code : Code) (n : ℕ) (walk : Walk) : Type 0 where
  pub states : List (Option AbsState)
  pub visited : IsVisited c code n states
  pub within : n ≤ length code
  pub begins : at code n ≡ None → length code ≤ n
  pub here : states_of states n ≡ is_here walk
  pub ahead : (t : ℕ) → n < t → states_of states t ≡ states_of walk.ahead t
  pub long : length walk.ahead ≡ length code + 1
  pub built : IsBuilt c code (states_of states) n (map op_of_packed walk.ops.items)

-- what flows on is there, and what a jump sends is kept
pub record IsPassedOn (next : Next) (to : ℕ) (before after : Walk) : Type 0 where
  pub on : is_here after ≡ next.on
  pub jump : IsAdded (states_of before.ahead to) next.jump (states_of after.ahead to)
  pub apart : (t : ℕ) → (t ≡ to → ⊥) → states_of after.ahead t ≡ states_of before.ahead t
  pub long : length after.ahead ≡ length before.ahead
  pub ops : after.ops ≡ before.ops

-- what flows on, as the rule says, is there
abbrev pub IsFollowed : Result Next Why → ℕ → Walk → Walk → Type 0
IsFollowed r to before after = (next : Next) × (r ≡ Ok next) × IsPassedOn next to before after

-- an instruction was done in the state, if there is one
abbrev pub IsStep : Context → Insn → ℕ → Option AbsState → Walk → Walk → Type 0
IsStep c i to None before after = after ≡ before
IsStep c i to (Some a) before after = IsFollowed (rule c i a) to before after

-- a check failed, or memory ran out
abbrev pub IsStopped : Result Next Why → ℕ → VerifyError → Type 0
IsStopped r slot error =
    (error ≡ record { fault = NoMemory; slot = 0 })
    ⊎ ((why : Why) × (r ≡ Err why) × (error ≡ record { fault = Rule why; slot = slot }))

-- an instruction's check failed in the state, if there is one, or memory ran out
abbrev pub IsStoppedAt : Context → Insn → ℕ → Option AbsState → VerifyError → Type 0
IsStoppedAt c i slot None error = ⊥
IsStoppedAt c i slot (Some a) error = IsStopped (rule c i a) slot error
