-- Reading a program from bytes, slot by slot, with the first fault that is met and its slot. The
-- lengths are looked at first.
use Rattle.std.specs.Prelude.{ℕ, suc, ◌/◌, ◌%◌, ◌≡◌, nat_eq, nat_lt, List, [], ◌∷◌, length, Option, Some, None, Result, Ok, Err, if◌then◌else◌}
use Rattle.scx_isa_encoding.specs.declared.slots.Slot.{Slot}
use Rattle.scx_isa_encoding.specs.declared.faults.DecodeFault.{DecodeFault}
use Rattle.scx_isa_encoding.specs.declared.faults.DecodeFault.TheVariants.{Empty, TooLong, NotWholeSlots}
use Rattle.scx_isa.specs.declared.faults.DecodeError.{DecodeError}
use Rattle.scx_isa.specs.declared.faults.DecodeError.TheVariants as errors
use Rattle.scx_isa_encoding.specs.Slots.{slots_in}
use Rattle.scx_isa_semantics.specs.Results.{◌>>=◌}
use Rattle.scx_isa_encoding.specs.Reading.{occupant_at, due_after}
use Rattle.scx_isa_semantics.specs.Code.{Code}
use Rattle.scx_isa.specs.declared.program.TheConstants.{MAX_SLOTS}

-- a fault, at a slot
abbrev pub at_slot : {A : Type 0} → ℕ → Result A DecodeFault → Result A (DecodeFault × ℕ)
at_slot k (Ok x) = Ok x
at_slot k (Err e) = Err (e, k)

-- the slot at the front, if any remains
abbrev pub slot_in_front : List Slot → Option Slot
slot_in_front [] = None
slot_in_front (s ∷ slots) = Some s

-- The occupants of the slots from the k-th on. The option is the second half that is due first.
unfoldable pub read_slots : ℕ → Option Slot → List Slot → Result Code (DecodeFault × ℕ)
read_slots k due [] = Ok []
read_slots k due (s ∷ slots) = do
  occupant ← at_slot k (occupant_at due s (slot_in_front slots))
  code ← read_slots (suc k) (due_after occupant) slots
  Ok (occupant ∷ code)

-- the program that bytes spell, or its first fault and where that is
abbrev pub read_program : List ℕ → Result Code (DecodeFault × ℕ)
read_program bytes =
    let n = length bytes / 8 in
    if nat_eq (length bytes) 0 then Err (Empty, 0) else (
    if nat_lt 0 (length bytes % 8) then Err (NotWholeSlots, n) else (
    if nat_lt MAX_SLOTS n then Err (TooLong, MAX_SLOTS) else read_slots 0 None (slots_in n bytes)))

-- A function's result, seen by view, is the result of reading, unless memory ran out.
abbrev pub Fails : {Y : Type 0} → DecodeError → Result Y (DecodeFault × ℕ) → Type 0
Fails (errors.Refused fault slot) read = read ≡ Err (fault, slot)
Fails errors.OutOfMemory read = Unit {0}

-- a function's answer, seen by view, is what reading gives; want of memory says nothing of it
abbrev pub Gives :
    {X Y : Type 0} → (X → Y) → Result X DecodeError → Result Y (DecodeFault × ℕ) → Type 0
Gives view (Ok x) read = read ≡ Ok (view x)
Gives view (Err e) read = Fails e read
