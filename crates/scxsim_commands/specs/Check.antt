-- The outcomes of `check` on the bytes of a file: verdicts on the programs of its policy, or why
-- they are refused.
use Rattle.std.specs.Prelude.{◌≡◌, ℕ, ◌<◌, ◌≤◌, List, length, IsUtf8, Ok, string_bytes}
use Rattle.scx_load_files.specs.Faults.{refusal}
use Rattle.scx_load_policies.specs.Policies.{PolicyFile}
use Rattle.scx_load_policies.specs.Reading.{policy_text}
use Rattle.scxsim_commands.specs.declared.file.TheConstants.{FILE_LIMIT}
use Rattle.scxsim_commands.specs.declared.refusal.Refusal.{Refusal}
use Rattle.scxsim_commands.specs.declared.refusal.Refusal.TheVariants.{TooLarge, NotUtf8, NoMemory, Policy}
use Rattle.scxsim_commands.specs.Text.{IsText}
use Rattle.scxsim_commands.specs.Verdicts.{Verdicts, HasVerdicts}

-- the bytes are a policy file, whose programs have these verdicts
pub record AreVerdicts (bytes : List ℕ) (verdicts : Verdicts) : Type 0 where
  pub is_text : IsText bytes
  pub policy : PolicyFile
  pub read : policy_text bytes ≡ Ok policy
  pub each : HasVerdicts policy verdicts

-- The bytes of a policy file are refused for that cause.
abbrev pub IsCheckCause : List ℕ → Refusal → Type 0
IsCheckCause bytes TooLarge = FILE_LIMIT < length bytes
IsCheckCause bytes NotUtf8 = (length bytes ≤ FILE_LIMIT) × ¬ IsUtf8 bytes
IsCheckCause bytes NoMemory = IsText bytes
IsCheckCause bytes (Policy path cause) =
    IsText bytes × (policy_text bytes ≡ refusal (string_bytes path) cause)
IsCheckCause bytes r = ⊥
