-- Bytes that are a text that a file may hold.
use Rattle.std.specs.Prelude.{ℕ, ◌<◌, ◌≤◌, List, length, IsUtf8}
use Rattle.scxsim_commands.specs.declared.refusal.Fault.{Fault}
use Rattle.scxsim_commands.specs.declared.refusal.Fault.TheVariants.{Refused}
use Rattle.scxsim_commands.specs.declared.refusal.Refusal.TheVariants.{TooLarge, NotUtf8}
use Rattle.scxsim_commands.specs.declared.file.TheConstants.{FILE_LIMIT}

-- the bytes are a text that a file may hold
pub record IsText (bytes : List ℕ) : Type 0 where
  pub fits : length bytes ≤ FILE_LIMIT
  pub utf8 : IsUtf8 bytes

-- The bytes are no text, for that cause.
abbrev pub IsNoText : List ℕ → Fault → Type 0
IsNoText bytes (Refused TooLarge) = FILE_LIMIT < length bytes
IsNoText bytes (Refused NotUtf8) = (length bytes ≤ FILE_LIMIT) × ¬ IsUtf8 bytes
IsNoText bytes f = ⊥
