-- Reading bytes gives the program that they spell, and gives it wherever they spell one.
use Rattle.std.proofs.Common.{◌≡◌, ℕ, zero, suc, ◌*◌, ◌/◌, ◌%◌, ◌<◌, ◌≤◌, Bool, true, false, nat_eq, nat_lt, List, length, None, Result, Ok, Err, refl, sym, ap, subst, ◌∙◌, arith}
use Rattle.std.proofs.lemmas.Bool.{eqb-false, ltb-false, le-ltb, ne_eqb}
use Rattle.std.specs.List.{flat_map}
use Rattle.scx_isa_encoding.specs.declared.slots.Slot.{Slot}
use Rattle.std.proofs.Common.{IfOk}
use Rattle.scx_isa.specs.declared.faults.DecodeError.{DecodeError}
use Rattle.scx_isa_encoding.specs.declared.faults.DecodeFault.{DecodeFault}
use Rattle.scx_isa_encoding.specs.declared.faults.DecodeFault.TheVariants.{Empty, TooLong, NotWholeSlots}
use Rattle.scx_isa_encoding.specs.Slots.{slot_bytes, slots_in}
use Rattle.scx_isa_semantics.specs.Code.{Code}
use Rattle.scx_isa.specs.Spelling.{code_slots, spelling, IsProgram, HasProgramLength, Spells}
use Rattle.scx_isa.specs.declared.program.TheConstants.{MAX_SLOTS}
use Rattle.scx_isa.specs.Reading.{Gives, read_slots, read_program}
use Rattle.scx_isa_encoding.proofs.Bytes.{IsBytes, slots_spelled, slots_fit, slots_again, length-slots}
use Rattle.scx_isa.proofs.Codes.{code_is_spelled, code_slots_fit, code_is_read, length-code_slots}

length-slots_in : (n : ℕ) (bytes : List ℕ) → length (slots_in n bytes) ≡ n
length-slots_in zero bytes = refl
length-slots_in (suc n) bytes = ap suc (length-slots_in n _)

-- what the tests of the length let through
pub record HasLength (bytes : List ℕ) (code : Code) : Type 0 where
  pub long : HasProgramLength bytes
  pub read : read_slots 0 None (slots_in (length bytes / 8) bytes) ≡ Ok code

abbrev failed : DecodeFault × ℕ → Result Code (DecodeFault × ℕ)
failed e = Err e

lengths : (bytes : List ℕ) (code : Code) → read_program bytes ≡ Ok code → HasLength bytes code
lengths bytes code e = go (nat_eq (length bytes) 0) (nat_lt 0 (length bytes % 8)) (nat_lt MAX_SLOTS (length bytes / 8)) refl refl refl
  where
    go : (a b c : Bool) → nat_eq (length bytes) 0 ≡ a → nat_lt 0 (length bytes % 8) ≡ b → nat_lt MAX_SLOTS (length bytes / 8) ≡ c → HasLength bytes code
    go true b c x y z = let bad : failed (Empty, 0) ≡ Ok code = rw x at e in absurd (cc)
    go false true c x y z = let bad : failed (NotWholeSlots, length bytes / 8) ≡ Ok code = rw (x, y) at e in absurd (cc)
    go false false true x y z = let bad : failed (TooLong, MAX_SLOTS) ≡ Ok code = rw (x, y, z) at e in absurd (cc)
    go false false false x y z =
        let nonzero = eqb-false _ _ x in
        record {
          long = record { some = omega arith; whole = omega (arith, ltb-false _ _ y); fits = ltb-false _ _ z };
          read = rw (x, y, z) at e;
        }

-- what is read from bytes is the program that they spell
pub program_is_spelled : (bytes : List ℕ) (code : Code) → IsBytes bytes → read_program bytes ≡ Ok code → Spells bytes code
program_is_spelled bytes code fits e =
    let has = lengths bytes code e in
    let n = length bytes / 8 in
    let long : length bytes ≡ 8 * n = omega (arith, has.long.whole) in
    let holds = code_is_spelled 0 None (slots_in n bytes) code (slots_fit n bytes fits) tt has.read in
    let count : length code ≡ n = sym (length-code_slots None code holds.insns) ∙ ap length (sym holds.spelled) ∙ length-slots_in n bytes in
    let bytes_are : bytes ≡ spelling code = sym (slots_spelled n bytes long fits) ∙ ap (λ (slots : List Slot). flat_map slot_bytes slots) holds.spelled in
    record {
      program = record { insns = holds.insns; some = omega (arith, has.long.some, count, long); fits = omega (arith, has.long.fits, count) };
      spelled = bytes_are;
    }

spelling_length : (code : Code) → IsProgram code → length (spelling code) ≡ 8 * length code
spelling_length code h =
    let slots = length-code_slots None code h.insns in
    let bytes = length-slots (code_slots code) in
    omega (arith, slots, bytes)

-- bytes that spell a program are as many as one has
pub program_has_length : (bytes : List ℕ) (code : Code) → Spells bytes code → HasProgramLength bytes
program_has_length bytes code h =
    let some : 0 < length code = h.program.some in
    let fits : length code ≤ MAX_SLOTS = h.program.fits in
    let long : length bytes ≡ 8 * length code = rw h.spelled (spelling_length code h.program) in
    record { some = omega arith; whole = omega arith; fits = omega arith }

-- bytes of a program's length are read slot by slot
pub slots_are_read : (bytes : List ℕ) → HasProgramLength bytes → read_program bytes ≡ read_slots 0 None (slots_in (length bytes / 8) bytes)
slots_are_read bytes long =
    let some : 0 < length bytes = long.some in
    let nonzero : nat_eq (length bytes) 0 ≡ false = ne_eqb _ _ (omega arith) in
    let whole : nat_lt 0 (length bytes % 8) ≡ false = rw long.whole refl in
    let fits : nat_lt MAX_SLOTS (length bytes / 8) ≡ false = le-ltb _ _ long.fits in
    rw (nonzero, whole, fits) refl

-- the spelling of a program is read as it
pub spelling_is_read : (code : Code) → IsProgram code → read_program (spelling code) ≡ Ok code
spelling_is_read code h =
    let slots = length-code_slots None code h.insns in
    let long = spelling_length code h in
    let count : length (spelling code) / 8 ≡ length code = omega (arith, long) in
    let same : slots_in (length code) (spelling code) ≡ code_slots code = rw (← slots) (slots_again (code_slots code) (code_slots_fit false code h.insns)) in
    slots_are_read (spelling code) (program_has_length (spelling code) code (record { program = h; spelled = refl }))
    ∙ rw (count, same) (code_is_read 0 None code h.insns)

-- and so are all bytes that spell it
pub program_is_read : (bytes : List ℕ) (code : Code) → Spells bytes code → read_program bytes ≡ Ok code
program_is_read bytes code h = rw h.spelled (spelling_is_read code h.program)

abbrev read_as : Code → Result Code (DecodeFault × ℕ)
read_as code = Ok code

same_code : (code other : Code) → read_as code ≡ read_as other → code ≡ other
same_code code other e = cc

-- bytes spell one program at most
pub spells_one : (bytes : List ℕ) (code other : Code) → Spells bytes code → Spells bytes other → code ≡ other
spells_one bytes code other p q = same_code code other (sym (program_is_read bytes code p) ∙ program_is_read bytes other q)

-- ---- what a decoder that gives this reading ensures

-- what a function gives that reads is the program that the bytes spell
pub is_decoded : (bytes : List ℕ) (r : Result Code DecodeError) → IsBytes bytes → Gives (λ code. code) r (read_program bytes) → IfOk r (λ code. Spells bytes code)
is_decoded bytes (Ok code) fits e = program_is_spelled bytes code fits e
is_decoded bytes (Err error) fits e = tt

-- and it gives the program wherever they spell one
pub is_given : (bytes : List ℕ) (r : Result Code DecodeError) → Gives (λ code. code) r (read_program bytes) → (code : Code) → Spells bytes code → Gives (λ code. code) r (Ok code)
is_given bytes r gives code spells = subst (Gives (λ code. code) r) (program_is_read bytes code spells) gives
