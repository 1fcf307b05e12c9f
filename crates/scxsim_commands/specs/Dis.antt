-- The outcomes of `dis` on the bytes of a program: its text, or why the bytes are refused.
use Rattle.std.specs.Prelude.{◌≡◌, ℕ, ◌<◌, ◌≤◌, List, length}
use Rattle.scx_isa_semantics.specs.Code.{Code}
use Rattle.scx_isa.specs.Spelling.{HasProgramLength, Spells}
use Rattle.scx_isa.specs.FirstFault.{IsFirstFault}
use Rattle.scx_asm.specs.Printing.{program_text}
use Rattle.scxsim_commands.specs.declared.refusal.Refusal.{Refusal}
use Rattle.scxsim_commands.specs.declared.refusal.Refusal.TheVariants.{TooLarge, NoMemory, Decode}
use Rattle.scxsim_commands.specs.declared.file.TheConstants.{FILE_LIMIT}

-- the text is the canonical one of the program that the bytes spell
pub record IsDisassembled (bytes text : List ℕ) : Type 0 where
  pub code : Code
  pub spelled : Spells bytes code
  pub canonical : text ≡ program_text code

-- The bytes of a program are refused for that cause. Memory is asked for only where they are
-- as many as a program has.
abbrev pub IsDisCause : List ℕ → Refusal → Type 0
IsDisCause bytes TooLarge = FILE_LIMIT < length bytes
IsDisCause bytes NoMemory = HasProgramLength bytes
IsDisCause bytes (Decode fault slot) = (length bytes ≤ FILE_LIMIT) × IsFirstFault bytes fault slot
IsDisCause bytes r = ⊥
