-- Errors of other calls, passed on: each as its own refusal, so that a fault that was found is
-- never told as out of memory.
use Rattle.std.specs.Prelude.{◌≡◌, Result, Ok, Err}
use Rattle.scx_sched_machine.specs.declared.start.NewError.{NewError}
use Rattle.scx_sched_machine.specs.declared.start.NewError.TheVariants.{InitFailed, BadShape, OutOfMemory}
use Rattle.scxsim_commands.specs.declared.refusal.Refusal.{Refusal}
use Rattle.scxsim_commands.specs.declared.refusal.Refusal.TheVariants.{NoMemory, Init}

-- the value that was made, or the refusal of its error
abbrev pub or_refusal : {A E : Type 0} → (E → Refusal) → Result A E → Result A Refusal
or_refusal refusal_of (Ok made) = Ok made
or_refusal refusal_of (Err e) = Err (refusal_of e)

-- of a machine whose shape is right
abbrev pub IsStartRefusal : NewError → Refusal → Type 0
IsStartRefusal (InitFailed answer) refusal = refusal ≡ Init answer
IsStartRefusal OutOfMemory refusal = refusal ≡ NoMemory
IsStartRefusal BadShape refusal = ⊥
