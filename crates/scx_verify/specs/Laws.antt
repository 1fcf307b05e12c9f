-- The laws of typings and of refusals, which are the contracts of public functions without
-- bodies of their own.
use Rattle.std.specs.Prelude.{◌≡◌, ◌≢◌, ◌≤◌, ℕ, Some, Ok}
use Rattle.scx_isa_semantics.specs.declared.instructions.Insn.{Insn}
use Rattle.scx_isa_semantics.specs.Machine.{Machine}
use Rattle.scx_abs.specs.declared.rules.Next.{Next}
use Rattle.scx_abs.specs.Stands.{IsMember}
use Rattle.scx_abs.specs.Rules.{rule}
use Rattle.scx_vm.specs.Chosen.{chosen}
use Rattle.scx_verify.specs.Translation.{op_of}
use Rattle.scx_vm.specs.declared.context.Context.{Context}
use Rattle.scx_isa_semantics.specs.Code.{Code}
use Rattle.scx_isa.specs.Spelling.{IsProgram}
use Rattle.scx_abs.specs.declared.faults.Why.{Why}
use Rattle.scx_verify.specs.declared.faults.Fault.{Fault}
use Rattle.scx_verify.specs.declared.faults.Fault.TheVariants.{NoMemory}
use Rattle.scx_abs.specs.declared.states.AbsState.{AbsState}
use Rattle.scx_abs.specs.States.{CoversSome, IsProper}
use Rattle.scx_verify.specs.Typing.{States, IsTyping, IsTyped}
use Rattle.scx_verify.specs.Forward.{AreForward, IsFirstRefusal}
use Rattle.scx_vm.specs.Safe.{IsSafe}
use Rattle.scx_verify.specs.Faults.{IsReason}

-- Every program with a typing is safe.
abbrev pub TypedIsSafe : Type 0
TypedIsSafe = (c : Context) (code : Code) → IsProgram code → IsTyped c code → IsSafe c code

-- Two first refusals of a program are one.
abbrev pub FirstRefusalsAgree : Type 0
FirstRefusalsAgree =
    (c : Context) (code : Code) (v w : Why) (s t : ℕ)
    → IsFirstRefusal c code v s → IsFirstRefusal c code w t → (v ≡ w) × (s ≡ t)

-- Two refusals of a program are one, where both say something of it.
abbrev pub RefusalsAgree : Type 0
RefusalsAgree =
    (c : Context) (code : Code) (f g : Fault) (s t : ℕ)
    → f ≢ NoMemory → g ≢ NoMemory → IsReason c code f s → IsReason c code g t → (f ≡ g) × (s ≡ t)

-- Every typing covers the forward states.
abbrev pub TypingsCoverForward : Type 0
TypingsCoverForward =
    (c : Context) (code : Code) (states typed : States) (slot : ℕ)
    → IsProgram code → AreForward c code states slot → IsTyping c code typed
    → (t : ℕ) (a : AbsState) → t ≤ slot → states t ≡ Some a → CoversSome (typed t) a

-- A program that is refused has no typing, unless memory ran out.
abbrev pub RefusalsAreJustified : Type 0
RefusalsAreJustified =
    (c : Context) (code : Code) (f : Fault) (s : ℕ)
    → IsProgram code → f ≢ NoMemory → IsReason c code f s → IsTyped c code → ⊥

-- Where the checks of an instruction pass, its operation is the one that every state calls for that
-- the abstract state describes, if that is proper.
abbrev pub TypingChooses : Type 0
TypingChooses =
    (c : Context) (t : ℕ) (i : Insn) (a : AbsState) (m : Machine) (next : Next)
    → IsProper a → IsMember c.defs a m → rule c i a ≡ Ok next
    → op_of c.defs c.callback t i a ≡ chosen c.callback m t i
