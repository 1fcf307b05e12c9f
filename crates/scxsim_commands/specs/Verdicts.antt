-- Verdicts on the programs of a policy: each is accepted, and then has a typing, or refused
-- for its first fault.
use Rattle.std.specs.Prelude.{◌≡◌, ◌≢◌, ℕ, Bool, true, false, ◌&&◌, ⊤, List, [], ◌∷◌, Option, Some, None}
use Rattle.scx_isa_semantics.specs.declared.callbacks.Callback.{Callback}
use Rattle.scx_isa_semantics.specs.declared.per_callback.PerCallback.{PerCallback}
use Rattle.scx_isa_semantics.specs.Callbacks.{callbacks, at}
use Rattle.scx_isa_semantics.specs.Code.{Code, instruction_count}
use Rattle.scx_verify.specs.declared.faults.Fault.TheVariants.{NoMemory}
use Rattle.scx_vm.specs.declared.context.Context.{Context}
use Rattle.scx_verify.specs.Typing.{IsTyped}
use Rattle.scx_verify.specs.Faults.{IsRefusal}
use Rattle.scx_load_policies.specs.Policies.{PolicyFile, program_of}
use Rattle.scx_load_policies.specs.Building.{context_of}
use Rattle.scxsim_commands.specs.declared.verdict.Verdict.{Verdict}
use Rattle.scxsim_commands.specs.declared.verdict.Verdict.TheVariants.{Accepted, Refused}

-- the verdict on a program in that context
abbrev pub IsVerdict : Context → Code → Verdict → Type 0
IsVerdict context code (Accepted count) =
    IsTyped context code × (count ≡ instruction_count code)
IsVerdict context code (Refused fault slot) =
    IsRefusal context code (record { fault = fault; slot = slot }) × (fault ≢ NoMemory)

-- where there is a program, and only there, there is a verdict on it
abbrev pub IsVerdictOf : Context → Option Code → Option Verdict → Type 0
IsVerdictOf context None None = ⊤
IsVerdictOf context None (Some verdict) = ⊥
IsVerdictOf context (Some code) None = ⊥
IsVerdictOf context (Some code) (Some verdict) = IsVerdict context code verdict

-- the verdicts on the programs of a policy, one for each callback or none
abbrev pub Verdicts : Type 0
Verdicts = PerCallback (Option Verdict)

-- the verdicts on all programs of a policy, each as its callback, with its maps and by its rules
abbrev pub HasVerdicts : PolicyFile → Verdicts → Type 0
HasVerdicts policy v =
    (b : Callback) → IsVerdictOf (context_of policy b) (program_of policy b) (at v b)

-- the program isn't refused: it is accepted, or there is none
abbrev pub is_accepted : Option Verdict → Bool
is_accepted None = true
is_accepted (Some (Accepted count)) = true
is_accepted (Some (Refused fault slot)) = false

-- of these callbacks none is refused
abbrev pub accepted_each : Verdicts → List Callback → Bool
accepted_each v [] = true
accepted_each v (b ∷ bs) = is_accepted (at v b) && accepted_each v bs

-- none is refused
abbrev pub are_accepted : Verdicts → Bool
are_accepted v = accepted_each v callbacks
