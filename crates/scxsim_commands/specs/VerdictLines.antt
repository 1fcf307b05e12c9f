-- The lines of verdicts, one for each callback that is there.
use Rattle.std.specs.Prelude.{ℕ, List, [], ◌∷◌, ◌++◌, codes, decimal, Option, Some, None}
use Rattle.scx_isa_semantics.specs.declared.callbacks.Callback.{Callback}
use Rattle.scx_isa_semantics.specs.Callbacks.{callback_name, callbacks, at}
use Rattle.scx_verify.specs.Faults.{fault_number, fault_name}
use Rattle.scxsim_commands.specs.Lines.{fault_text}
use Rattle.scxsim_commands.specs.declared.verdict.Verdict.{Verdict}
use Rattle.scxsim_commands.specs.declared.verdict.Verdict.TheVariants.{Accepted, Refused}
use Rattle.scxsim_commands.specs.Verdicts.{Verdicts}

-- a callback and `ok` with the number of instructions, or `refused` with the fault and its slot
abbrev pub verdict_line : Callback → Verdict → List ℕ
verdict_line b (Accepted count) = callback_name b ++ codes " ok " ++ decimal count ++ codes "\n"
verdict_line b (Refused fault slot) =
    callback_name b ++ codes " refused "
    ++ fault_text (fault_number fault) (fault_name fault) slot ++ codes "\n"

-- the line of a callback that has a verdict; nothing where it has none
abbrev pub line_of : Callback → Option Verdict → List ℕ
line_of b None = []
line_of b (Some verdict) = verdict_line b verdict

-- the lines of these callbacks, one after another
abbrev pub lines_of : Verdicts → List Callback → List ℕ
lines_of v [] = []
lines_of v (b ∷ bs) = line_of b (at v b) ++ lines_of v bs

-- in the order of callbacks
abbrev pub verdict_lines : Verdicts → List ℕ
verdict_lines v = lines_of v callbacks
