-- The first fault of bytes that spell no program, without saying how it is found: either their
-- length is wrong, or the slots in front of the faulty instruction spell instructions, and it is
-- wrong itself or its second half is. The faults of a slot are those of `Reading`.
use Rattle.std.specs.Prelude.{ℕ, suc, ◌/◌, ◌%◌, ◌≡◌, ◌≢◌, ◌<◌, false, List, ◌∷◌, ◌++◌, length, Some, Ok, Err}
use Rattle.scx_isa_encoding.specs.declared.slots.Slot.{Slot}
use Rattle.scx_isa_semantics.specs.declared.instructions.Insn.{Insn}
use Rattle.scx_isa_encoding.specs.declared.faults.DecodeFault.{DecodeFault}
use Rattle.scx_isa_encoding.specs.declared.faults.DecodeFault.TheVariants.{Empty, TooLong, NotWholeSlots, UnusedField}
use Rattle.scx_isa.specs.declared.faults.DecodeError.{DecodeError}
use Rattle.scx_isa.specs.declared.faults.DecodeError.TheVariants as errors
use Rattle.scx_isa_semantics.specs.Code.{Code}
use Rattle.scx_isa_encoding.specs.Slots.{slots_in}
use Rattle.scx_isa_encoding.specs.Spelling.{second_slot}
use Rattle.scx_isa.specs.Spelling.{IsCode, code_slots, HasProgramLength}
use Rattle.scx_isa.specs.declared.program.TheConstants.{MAX_SLOTS}
use Rattle.scx_isa_encoding.specs.Reading.{insn_at}
use Rattle.scx_isa.specs.Reading.{slot_in_front}

-- the slots from the k-th on, where those in front of it spell whole instructions
pub record IsRest (slots : List Slot) (k : ℕ) (rest : List Slot) : Type 0 where
  pub front : Code
  pub insns : IsCode false front
  pub split : slots ≡ code_slots front ++ rest
  pub number : k ≡ length front

-- the k-th slot begins no instruction, by that fault
pub record FailsAtInsn (slots : List Slot) (fault : DecodeFault) (k : ℕ) : Type 0 where
  pub slot : Slot
  pub after : List Slot
  pub rest : IsRest slots k (slot ∷ after)
  pub fails : insn_at slot (slot_in_front after) ≡ Err fault

-- the k-th slot begins a wide instruction, and the next slot isn't the second half that is due
pub record FailsInHalf (slots : List Slot) (k : ℕ) : Type 0 where
  pub slot : Slot
  pub half : Slot
  pub after : List Slot
  pub rest : IsRest slots k (slot ∷ half ∷ after)
  pub insn : Insn
  pub begins : insn_at slot (Some half) ≡ Ok insn
  pub due : Slot
  pub wide : second_slot insn ≡ Some due
  pub fails : half ≢ due

-- the first fault of the bytes, and its slot
pub data IsFirstFault (bytes : List ℕ) : DecodeFault → ℕ → Type 0 where
  NoByte : length bytes ≡ 0 → IsFirstFault bytes Empty 0
  CutSlot : 0 < length bytes % 8 → IsFirstFault bytes NotWholeSlots (length bytes / 8)
  PastLimit : length bytes % 8 ≡ 0 → MAX_SLOTS < length bytes / 8
      → IsFirstFault bytes TooLong MAX_SLOTS
  AtInsn : (fault : DecodeFault) (k : ℕ)
      → HasProgramLength bytes → FailsAtInsn (slots_in (length bytes / 8) bytes) fault k
      → IsFirstFault bytes fault k
  InHalf : (k : ℕ)
      → HasProgramLength bytes → FailsInHalf (slots_in (length bytes / 8) bytes) k
      → IsFirstFault bytes UnusedField (suc k)

-- the statement of a refusal; memory is asked for only where they have a program's length
abbrev pub IsRefusal : List ℕ → DecodeError → Type 0
IsRefusal bytes (errors.Refused fault slot) = IsFirstFault bytes fault slot
IsRefusal bytes errors.OutOfMemory = HasProgramLength bytes
