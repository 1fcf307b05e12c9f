-- Programs and their spelling (RFC 9669, section 3): the slots of a program are those of its
-- instructions in order, and its bytes are those of its slots.
use Rattle.std.specs.Prelude.{ℕ, ◌/◌, ◌%◌, ◌≡◌, ◌<◌, ◌≤◌, Bool, true, false, List, [], ◌∷◌, length, Option, Some, None}
use Rattle.std.specs.List.{flat_map}
use Rattle.scx_isa_encoding.specs.declared.slots.Slot.{Slot}
use Rattle.scx_isa_semantics.specs.declared.instructions.Insn.{Insn}
use Rattle.scx_isa_encoding.specs.Slots.{slot_bytes}
use Rattle.scx_isa_encoding.specs.Spelling.{insn_slots, IsInsn}
use Rattle.scx_isa_semantics.specs.Code.{Code, is_wide}
use Rattle.scx_isa.specs.declared.program.TheConstants.{MAX_SLOTS}

-- a second half is spelled with its first
abbrev pub occupant_slots : Option Insn → List Slot
occupant_slots None = []
occupant_slots (Some i) = insn_slots i

-- the slots of a program are those of its instructions in order
abbrev pub code_slots : Code → List Slot
code_slots code = flat_map occupant_slots code

-- the bytes of a program's slots, in order
abbrev pub spelling : Code → List ℕ
spelling code = flat_map slot_bytes (code_slots code)

-- The instructions of a list of slots, with a second half after each wide one and nowhere else.
-- The flag says whether a second half comes first.
abbrev pub IsCode : Bool → Code → Type 0
IsCode false [] = Unit {0}
IsCode false (Some i ∷ code) = IsInsn i × IsCode (is_wide i) code
IsCode false (None ∷ code) = ⊥
IsCode true [] = ⊥
IsCode true (Some i ∷ code) = ⊥
IsCode true (None ∷ code) = IsCode false code

-- a program has 1 to 4096 slots
pub record IsProgram (code : Code) : Type 0 where
  pub insns : IsCode false code
  pub some : 0 < length code
  pub fits : length code ≤ MAX_SLOTS

-- the bytes are as many as a program has: whole slots, 1 to 4096 of them
pub record HasProgramLength (bytes : List ℕ) : Type 0 where
  pub some : 0 < length bytes
  pub whole : length bytes % 8 ≡ 0
  pub fits : length bytes / 8 ≤ MAX_SLOTS

-- the bytes spell the program
pub record Spells (bytes : List ℕ) (code : Code) : Type 0 where
  pub program : IsProgram code
  pub spelled : bytes ≡ spelling code
