-- The text that `explain-one` writes: of one program the line of its verdict and its listing, or
-- that the policy has no program of that name.
use Rattle.std.specs.Prelude.{◌≡◌, ℕ, Bool, false, List, ◌++◌, codes, Option, Some, None, Ok}
use Rattle.scx_isa_semantics.specs.declared.callbacks.Callback.{Callback}
use Rattle.scx_isa_semantics.specs.Callbacks.{callbacks, callback_name}
use Rattle.scx_asm_text.specs.Names.{first_with_name}
use Rattle.scx_load_policies.specs.Policies.{PolicyFile, program_of}
use Rattle.scx_load_policies.specs.Reading.{policy_text}
use Rattle.scx_load_policies.specs.Building.{context_of}
use Rattle.scxsim_commands.specs.Text.{IsText}
use Rattle.scxsim_commands.specs.VerdictLines.{verdict_line}
use Rattle.scxsim_commands.specs.declared.verdict.Verdict.{Verdict}
use Rattle.scxsim_commands.specs.Verdicts.{IsVerdictOf, is_accepted}
use Rattle.scxsim_explain.specs.declared.explained.Explained.{Explained}
use Rattle.scxsim_explain.specs.Explained.{IsExplained, IsSo, IsTraced, HasJumps, first_line}

-- the callback of that name, if a policy may have one
abbrev pub callback_named : List ℕ → Option Callback
callback_named name = first_with_name callback_name callbacks name

-- the program of that callback, with the verdict on it, and why it is refused, if it is
pub record IsExplainedAs (policy : PolicyFile) (b : Callback) (explained : Explained) :
    Type 0 where
  pub verdict : IsVerdictOf (context_of policy b) (program_of policy b) (Some explained.verdict)
  pub line : first_line explained ≡ verdict_line b explained.verdict
  pub explanation : IsExplained explained
  pub so : IsSo explained
  pub traced : IsTraced explained
  pub jumps : HasJumps explained

-- the callback's program, explained, or there is none
abbrev pub IsTaken : PolicyFile → Callback → Option Explained → Type 0
IsTaken policy b None = program_of policy b ≡ None
IsTaken policy b (Some explained) = IsExplainedAs policy b explained

-- the program of the callback of that name, explained; none where there is no such callback, or no
-- program of it
abbrev pub IsChosen : PolicyFile → Option Callback → Option Explained → Type 0
IsChosen policy None found = found ≡ None
IsChosen policy (Some b) found = IsTaken policy b found

-- the bytes are a policy file, of which that program is explained
pub record IsChosenOf (bytes name : List ℕ) (found : Option Explained) : Type 0 where
  pub is_text : IsText bytes
  pub policy : PolicyFile
  pub read : policy_text bytes ≡ Ok policy
  pub chosen : IsChosen policy (callback_named name) found

-- the line of a name that no program of the policy has
abbrev pub no_such_line : List ℕ
no_such_line = codes "refused: word CALLBACK: no such callback\n"

-- what is written of a program, and whether it is safe; without one the answer is false
abbrev pub IsTold : Option Explained → Bool → List ℕ → Type 0
IsTold None answer text = (answer ≡ false) × (text ≡ no_such_line)
IsTold (Some explained) answer text =
    (answer ≡ is_accepted (Some explained.verdict))
    × (listing : List ℕ) × (text ≡ first_line explained ++ listing)

-- the text that is written of the program of that name, and the answer
pub record IsOneOf (bytes name : List ℕ) (answer : Bool) (text : List ℕ) : Type 0 where
  pub found : Option Explained
  pub chosen : IsChosenOf bytes name found
  pub told : IsTold found answer text
