-- The outcomes of `asm` on the bytes of a text: its program, or why the bytes are refused.
use Rattle.std.specs.Prelude.{◌≡◌, ℕ, ◌<◌, ◌≤◌, List, length, IsUtf8, Ok, Err}
use Rattle.scx_isa_semantics.specs.Code.{Code}
use Rattle.scx_isa.specs.Spelling.{Spells}
use Rattle.scx_asm.specs.declared.faults.AsmFault.{AsmFault}
use Rattle.scx_asm.specs.Reading.{read_text}
use Rattle.scxsim_commands.specs.declared.refusal.Refusal.{Refusal}
use Rattle.scxsim_commands.specs.declared.refusal.Refusal.TheVariants.{TooLarge, NotUtf8, NoMemory, Assemble}
use Rattle.scxsim_commands.specs.declared.file.TheConstants.{FILE_LIMIT}
use Rattle.scxsim_commands.specs.Text.{IsText}

-- a text that a file may hold is of the program that these bytes spell
pub record IsAssembled (text bytes : List ℕ) : Type 0 where
  pub is_text : IsText text
  pub code : Code
  pub read : read_text text ≡ Ok code
  pub spelled : Spells bytes code

-- the line where the text has its first fault
abbrev pub HasAsmFault : List ℕ → AsmFault → ℕ → Type 0
HasAsmFault text fault line = read_text text ≡ Err (fault, line)

-- The bytes of a text are refused for that cause.
abbrev pub IsAsmCause : List ℕ → Refusal → Type 0
IsAsmCause bytes TooLarge = FILE_LIMIT < length bytes
IsAsmCause bytes NotUtf8 = (length bytes ≤ FILE_LIMIT) × ¬ IsUtf8 bytes
IsAsmCause bytes NoMemory = IsText bytes
IsAsmCause bytes (Assemble fault line) = IsText bytes × HasAsmFault bytes fault line
IsAsmCause bytes r = ⊥
