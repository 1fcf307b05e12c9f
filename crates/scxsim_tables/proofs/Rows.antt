-- Figures that are written after their heads.
use Rattle.std.proofs.Common.{◌≡◌, ℕ, Bool, true, List, ◌++◌, Option, Result, Ok, Err, IfOk, OnErr, sym, subst}
use Rattle.std.specs.Io.KnownBytes.{Appends}
use Rattle.scxsim_output.specs.Output.{AppendsBeginning}
use Rattle.scxsim_commands.specs.Outcome.{IfRefused}
use Rattle.scxsim_commands.specs.declared.refusal.Fault.{Fault}
use Rattle.scxsim_commands.specs.declared.refusal.Fault.TheVariants.{Refused, WriteFailed}
use Rattle.scxsim_commands.specs.declared.refusal.Refusal.{Refusal}
use Rattle.scxsim_commands.specs.declared.refusal.Refusal.TheVariants.{NoMemory}
use Rattle.scxsim_output.proofs.Beginnings.{beginning_behind}

-- a text of two parts that is cut off in the second
pub cut_in_second : {A E : Type 0} (r : Result A E) (a b c : Option (List ℕ)) (head rows : List ℕ) → Appends a b head → OnErr r (AppendsBeginning b c rows) → OnErr r (AppendsBeginning a c (head ++ rows))
cut_in_second (Ok x) a b c head rows first cut = cut
cut_in_second (Err e) a b c head rows first cut = beginning_behind a b c head rows first cut

-- with the figures that were written
pub with_figures : {F : Type 0} (r : Result Bool Fault) (x : F) (Are Written : F → Type 0) → Are x → IfOk r (λ answer. (answer ≡ true) × Written x)
    → IfOk r (λ answer. (answer ≡ true) × (f : F) × Are f × Written f)
with_figures (Err e) x Are Written are done = tt
with_figures (Ok answer) x Are Written are done = (done.0, x, are, done.1)

-- out of memory is a cause of its own
pub no_memory_is_cause : (r : Result Bool Fault) (IsCause : Refusal → Type 0) → IsCause NoMemory → IfRefused r (λ refusal. refusal ≡ NoMemory) → IfRefused r IsCause
no_memory_is_cause (Ok answer) IsCause cause refused = tt
no_memory_is_cause (Err WriteFailed) IsCause cause refused = tt
no_memory_is_cause (Err (Refused refusal)) IsCause cause refused = subst IsCause (sym refused) cause
