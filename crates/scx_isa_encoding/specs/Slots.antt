-- Bytes and slots (RFC 9669, section 3): a slot is eight bytes, the opcode, the registers with the
-- destination in the low four bits, the offset in 16 bits and the immediate in 32, low byte first.
use Rattle.std.specs.Prelude.{ℕ, zero, suc, ◌+◌, ◌*◌, ◌/◌, ◌%◌, ◌<◌, ◌^◌, Bool, ◌&&◌, nat_eq, nat_lt, List, [], ◌∷◌, ◌++◌, length, slice_index, drop, Option, Some, None, if◌then◌else◌}
use Rattle.byteorder.specs.Endian.{little_number, little_bytes}
use Rattle.scx_isa_encoding.specs.declared.slots.Slot.{Slot}

-- the eight bytes that spell a slot
abbrev pub slot_bytes : Slot → List ℕ
slot_bytes s =
    s.opcode ∷ (s.destination + 16 * s.source)
    ∷ (little_bytes 2 s.offset ++ little_bytes 4 s.immediate)

-- the slot that the first eight bytes spell
abbrev pub slot_at : List ℕ → Slot
slot_at bytes = record {
  opcode = slice_index bytes 0;
  destination = slice_index bytes 1 % 16;
  source = slice_index bytes 1 / 16;
  offset = little_number 2 (drop 2 bytes);
  immediate = little_number 4 (drop 4 bytes);
}

-- a number of slots, one after the other
abbrev pub slots_in : ℕ → List ℕ → List Slot
slots_in zero bytes = []
slots_in (suc n) bytes = slot_at bytes ∷ slots_in n (drop 8 bytes)

-- the first slot, if eight bytes are there
abbrev pub front_slot : List ℕ → Option Slot
front_slot bytes = if nat_lt (length bytes) 8 then None else Some (slot_at bytes)

-- each field fits its bits
pub record IsSlot (s : Slot) : Type 0 where
  pub opcode : s.opcode < 256
  pub destination : s.destination < 16
  pub source : s.source < 16
  pub offset : s.offset < 2 ^ 16
  pub immediate : s.immediate < 2 ^ 32

-- true if two slots have the same fields
abbrev pub same_slot : Slot → Slot → Bool
same_slot s t =
    (((nat_eq s.opcode t.opcode && nat_eq s.destination t.destination) && nat_eq s.source t.source)
    && nat_eq s.offset t.offset) && nat_eq s.immediate t.immediate
