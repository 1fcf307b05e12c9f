-- Bytes and slots correspond one to one.
use Rattle.std.proofs.Common.{◌≡◌, ℕ, zero, suc, ◌+◌, ◌*◌, ◌/◌, ◌%◌, ◌<◌, ◌≤◌, List, [], ◌∷◌, ◌++◌, length, drop, get_or, refl, ap, ◌∙◌, arith, length-drop}
use Rattle.std.specs.List.{flat_map, AllByRecursion}
use Rattle.std.proofs.lemmas.List.{get_or-drop}
use Rattle.std.proofs.lemmas.Nat.{le_bytes_2, le_bytes_4}
use Rattle.byteorder.specs.Endian.{little_number, little_bytes}
use Rattle.byteorder.specs.Numbers.{little_number-reads_back}
use Rattle.scx_isa_encoding.specs.declared.slots.Slot.{Slot}
use Rattle.scx_isa_encoding.specs.Slots.{slot_bytes, slot_at, slots_in, IsSlot}

abbrev pub IsBytes : List ℕ → Type 0
IsBytes bytes = (i : ℕ) → get_or bytes i 0 < 256

-- what stands behind some bytes are bytes
pub IsBytes-drop : (n : ℕ) (bytes : List ℕ) → IsBytes bytes → IsBytes (drop n bytes)
IsBytes-drop n bytes h i = rw get_or-drop (h (n + i))

IsBytes-none : IsBytes []
IsBytes-none i = omega arith

IsBytes-cons : (b : ℕ) (bytes : List ℕ) → b < 256 → IsBytes bytes → IsBytes (b ∷ bytes)
IsBytes-cons b bytes h fits zero = h
IsBytes-cons b bytes h fits (suc i) = fits i

-- ---- one slot

-- eight bytes and what follows them
abbrev eight : (a b c d e f g h : ℕ) → List ℕ → List ℕ
eight a b c d e f g h rest = a ∷ b ∷ c ∷ d ∷ e ∷ f ∷ g ∷ h ∷ rest

slot_back : (a b c d e f g h : ℕ) (rest : List ℕ) → IsBytes (eight a b c d e f g h rest)
    → slot_bytes (slot_at (eight a b c d e f g h rest)) ≡ eight a b c d e f g h []
slot_back a b c d e f g h rest fits =
    let registers : b % 16 + 16 * (b / 16) ≡ b = omega arith in
    let first : little_bytes 2 (little_number 2 (c ∷ d ∷ [])) ≡ c ∷ d ∷ [] = le_bytes_2 (c ∷ d ∷ []) (little_number 2 (c ∷ d ∷ [])) refl (IsBytes-cons c (d ∷ []) (fits 2) (IsBytes-cons d [] (fits 3) IsBytes-none)) (omega arith) in
    let second : little_bytes 4 (little_number 4 (e ∷ f ∷ g ∷ h ∷ [])) ≡ e ∷ f ∷ g ∷ h ∷ [] = le_bytes_4 (e ∷ f ∷ g ∷ h ∷ []) (little_number 4 (e ∷ f ∷ g ∷ h ∷ [])) refl (IsBytes-cons e (f ∷ g ∷ h ∷ []) (fits 4) (IsBytes-cons f (g ∷ h ∷ []) (fits 5) (IsBytes-cons g (h ∷ []) (fits 6) (IsBytes-cons h [] (fits 7) IsBytes-none)))) (omega arith) in
    ap (λ (r : List ℕ). a ∷ r) (ap (λ (n : ℕ). n ∷ (little_bytes 2 (little_number 2 (c ∷ d ∷ [])) ++ little_bytes 4 (little_number 4 (e ∷ f ∷ g ∷ h ∷ [])))) registers
    ∙ ap (λ (r : List ℕ). b ∷ (r ++ little_bytes 4 (little_number 4 (e ∷ f ∷ g ∷ h ∷ [])))) first
    ∙ ap (λ (r : List ℕ). b ∷ c ∷ d ∷ r) second)

slot_front : (bytes : List ℕ) → 8 ≤ length bytes → IsBytes bytes → slot_bytes (slot_at bytes) ++ drop 8 bytes ≡ bytes
slot_front (a ∷ b ∷ c ∷ d ∷ e ∷ f ∷ g ∷ h ∷ rest) le fits = ap (λ (r : List ℕ). r ++ rest) (slot_back a b c d e f g h rest fits)
slot_front bytes le fits = absurd (omega arith)

slot_fits : (bytes : List ℕ) → IsBytes bytes → IsSlot (slot_at bytes)
slot_fits bytes fits = record {
  opcode = fits 0;
  destination = omega arith;
  source = omega (arith, fits 1);
  offset = omega (arith, IsBytes-drop 2 bytes fits 0, IsBytes-drop 2 bytes fits 1);
  immediate = omega (arith, IsBytes-drop 4 bytes fits 0, IsBytes-drop 4 bytes fits 1, IsBytes-drop 4 bytes fits 2, IsBytes-drop 4 bytes fits 3);
}

-- the five fields make the slot
pub same_fields : (s : Slot) (opcode destination source offset immediate : ℕ)
    → opcode ≡ s.opcode → destination ≡ s.destination → source ≡ s.source → offset ≡ s.offset → immediate ≡ s.immediate
    → (let t : Slot = record { opcode = opcode; destination = destination; source = source; offset = offset; immediate = immediate } in t ≡ s)
same_fields s opcode destination source offset immediate p q r t u = rw (p, q, r, t, u) refl

slot_again : (s : Slot) (rest : List ℕ) → IsSlot s → slot_at (slot_bytes s ++ rest) ≡ s
slot_again s rest fits =
    let d : s.destination < 16 = fits.destination in
    let r : s.source < 16 = fits.source in
    same_fields s _ _ _ _ _
    refl
    (omega arith)
    (omega arith)
    (little_number-reads_back 2 s.offset (little_bytes 4 s.immediate ++ rest) fits.offset)
    (little_number-reads_back 4 s.immediate rest fits.immediate)

-- ---- all slots

-- the slots that bytes hold spell those bytes
pub slots_spelled : (n : ℕ) (bytes : List ℕ) → length bytes ≡ 8 * n → IsBytes bytes → flat_map slot_bytes (slots_in n bytes) ≡ bytes
slots_spelled zero [] e fits = refl
slots_spelled zero (b ∷ bytes) e fits = absurd (omega arith)
slots_spelled (suc n) bytes e fits =
    rw (slots_spelled n (drop 8 bytes) (omega (arith, length-drop 8 bytes)) (IsBytes-drop 8 bytes fits)) (slot_front bytes (omega arith) fits)

-- they fit their fields
pub slots_fit : (n : ℕ) (bytes : List ℕ) → IsBytes bytes → AllByRecursion IsSlot (slots_in n bytes)
slots_fit zero bytes fits = tt
slots_fit (suc n) bytes fits = (slot_fits bytes fits, slots_fit n (drop 8 bytes) (IsBytes-drop 8 bytes fits))

-- what spells slots holds those slots
pub slots_again : (slots : List Slot) → AllByRecursion IsSlot slots → slots_in (length slots) (flat_map slot_bytes slots) ≡ slots
slots_again [] fits = refl
slots_again (s ∷ slots) fits = rw (slot_again s (flat_map slot_bytes slots) fits.0, slots_again slots fits.1) refl

-- a slot is spelled by eight bytes
pub length-slots : (slots : List Slot) → length (flat_map slot_bytes slots) ≡ 8 * length slots
length-slots [] = refl
length-slots (s ∷ slots) = omega (arith, length-slots slots)
