-- A program that is read is spelled by its slots, and the slots that spell a program are read as it.
use Rattle.std.proofs.Common.{◌≡◌, ℕ, zero, suc, ◌+◌, ◌<◌, Bool, true, false, List, [], ◌∷◌, ◌++◌, length, Option, Some, None, Result, Ok, Err, refl, ap, subst, arith, is_none, is_some, count_by, if◌then◌else◌}
use Rattle.std.specs.Option.{option_to_list}
use Rattle.std.specs.List.{AllByRecursion}
use Rattle.std.specs.Option.{ForSome}
use Rattle.std.specs.List.{flat_map}
use Rattle.std.proofs.lemmas.List.{take_more, append-nil}
use Rattle.std.proofs.lemmas.Grind.{flat_map-append}
use Rattle.std.proofs.Common.{get_or, take}
use Rattle.scx_isa_encoding.specs.declared.slots.Slot.{Slot}
use Rattle.scx_isa_semantics.specs.declared.instructions.Insn.{Insn}
use Rattle.scx_isa_semantics.specs.declared.instructions.Insn.TheVariants as insn
use Rattle.scx_isa_encoding.specs.declared.faults.DecodeFault.{DecodeFault}
use Rattle.scx_isa_encoding.specs.declared.faults.DecodeFault.TheVariants.{UnusedField}
use Rattle.scx_isa_encoding.specs.Slots.{IsSlot, same_slot, slot_bytes}
use Rattle.std.proofs.lemmas.List.Recursion.{is_count_by}
use Rattle.scx_isa_semantics.specs.Code.{Code, is_wide, instruction_count}
use Rattle.scx_isa_encoding.specs.Spelling.{first_slot, second_slot, insn_slots, IsInsn}
use Rattle.scx_isa.specs.Spelling.{occupant_slots, code_slots, spelling, IsCode}
use Rattle.scx_isa_encoding.specs.Reading.{insn_at, half_at, occupant_at, due_after}
use Rattle.scx_isa.specs.Reading.{slot_in_front, at_slot, read_slots}
use Rattle.scx_isa_encoding.proofs.Insns.{bind_ok, done, ok_is, is_same, same_is, HalfFits, Reads, insn_is_spelled, Follows, insn_is_read, first_is_slot, second_is_slot}

-- wide instructions are those with a second slot
pub wide_is : (i : Insn) → is_wide i ≡ is_some (second_slot i)
wide_is (insn.LoadImmediate d low high) = refl
wide_is (insn.LoadMapReference d k) = refl
wide_is i = refl

placed_ok : {A : Type 0} (k : ℕ) (r : Result A DecodeFault) (x : A) → at_slot k r ≡ Ok x → r ≡ Ok x
placed_ok k (Ok y) x e = let same : y ≡ x = cc in ap (λ z. Ok z) same
placed_ok k (Err d) x e = absurd (cc)

-- instructions are counted as the occupants that hold one
pub count_is : (code : Code) → instruction_count code ≡ count_by is_some code
count_is code = is_count_by instruction_count is_some refl (λ occupant code. more occupant code) code
  where
    more : (occupant : Option Insn) (code : Code) → instruction_count (occupant ∷ code) ≡ (if is_some occupant then 1 + instruction_count code else instruction_count code)
    more None code = refl
    more (Some i) code = omega arith

-- ---- what is read

first_fits : (slots : List Slot) → AllByRecursion IsSlot slots → HalfFits (slot_in_front slots)
first_fits [] h = tt
first_fits (s ∷ slots) h = h.0

half_reads : (s due : Slot) (p : Option Insn) → half_at s due ≡ Ok p → (s ≡ due) × (p ≡ None)
half_reads s due p e = go (same_slot s due) refl
  where
    go : (b : Bool) → same_slot s due ≡ b → (s ≡ due) × (p ≡ None)
    go true t = let good : done None ≡ Ok p = rw t at e in (is_same _ _ t, cc)
    go false t = let bad : Err UnusedField ≡ Ok p = rw t at e in absurd (cc)

-- where a second half is due there is a slot for it
abbrev HasSecondHalf : Option Slot → List Slot → Type 0
HasSecondHalf None slots = Unit {0}
HasSecondHalf (Some due) slots = is_none (slot_in_front slots) ≡ false

second_half_behind : (t : Option Slot) (slots : List Slot) → (is_some t ≡ true → is_none (slot_in_front slots) ≡ false) → HasSecondHalf t slots
second_half_behind None slots h = tt
second_half_behind (Some due) slots h = h refl

-- the slots hold the second half that is due and then the code
pub record Holds (due : Option Slot) (slots : List Slot) (code : Code) : Type 0 where
  pub insns : IsCode (is_some due) code
  pub spelled : slots ≡ option_to_list due ++ code_slots code

holds_half : (due s : Slot) (slots : List Slot) (code : Code) → s ≡ due → Holds None slots code → Holds (Some due) (s ∷ slots) (None ∷ code)
holds_half due s slots code e h = record { insns = h.insns; spelled = rw (e, h.spelled) refl }

holds_insn : (s : Slot) (slots : List Slot) (i : Insn) (code : Code) → s ≡ first_slot i → IsInsn i → Holds (second_slot i) slots code → Holds None (s ∷ slots) (Some i ∷ code)
holds_insn s slots i code e h rest = record {
  insns = (h, rw (wide_is i) rest.insns);
  spelled = rw (e, rest.spelled) refl;
}

-- what stands at the first slot, and what is read behind it
record Splits (k : ℕ) (due : Option Slot) (s : Slot) (slots : List Slot) (code : Code) : Type 0 where
  occupant : Option Insn
  rest : Code
  read : occupant_at due s (slot_in_front slots) ≡ Ok occupant
  goes : read_slots (suc k) (due_after occupant) slots ≡ Ok rest
  whole : occupant ∷ rest ≡ code

splits : (k : ℕ) (due : Option Slot) (s : Slot) (slots : List Slot) (code : Code) → read_slots k due (s ∷ slots) ≡ Ok code → Splits k due s slots code
unfolding read_slots
splits k due s slots code e =
    let p = bind_ok (at_slot k (occupant_at due s (slot_in_front slots))) _ code e in
    let q = bind_ok (read_slots (suc k) (due_after p.0) slots) _ code p.2 in
    record { occupant = p.0; rest = q.0; read = placed_ok k _ _ p.1; goes = q.1; whole = ok_is _ _ q.2 }

-- an occupant without a second half due is an instruction that was read
record IsRead (s : Slot) (next : Option Slot) (p : Option Insn) : Type 0 where
  insn : Insn
  read : insn_at s next ≡ Ok insn
  occupant : Some insn ≡ p

occupant_reads : (s : Slot) (next : Option Slot) (p : Option Insn) → occupant_at None s next ≡ Ok p → IsRead s next p
occupant_reads s next p e =
    let r = bind_ok (insn_at s next) _ p e in
    record { insn = r.0; read = r.1; occupant = ok_is _ _ r.2 }

holds_read : (k : ℕ) (s : Slot) (slots : List Slot) (code : Code) (i : Insn) (p : Option Insn) (rest : Code)
    → Reads s (slot_in_front slots) i → Some i ≡ p → read_slots (suc k) (due_after p) slots ≡ Ok rest → p ∷ rest ≡ code
    → (HasSecondHalf (second_slot i) slots → read_slots (suc k) (second_slot i) slots ≡ Ok rest → Holds (second_slot i) slots rest)
    → Holds None (s ∷ slots) code
holds_read k s slots code i p rest reads occupant goes whole others =
    let room : HasSecondHalf (second_slot i) slots = second_half_behind (second_slot i) slots (rw (wide_is i) at reads.second) in
    let goes_on : read_slots (suc k) (second_slot i) slots ≡ Ok rest = rw (← occupant) at goes in
    let same : Some i ∷ rest ≡ code = rw occupant whole in
    subst (Holds None (s ∷ slots)) same (holds_insn s slots i rest reads.slot reads.insn (others room goes_on))

holds_due : (k : ℕ) (due s : Slot) (slots : List Slot) (code : Code) (p : Option Insn) (rest : Code)
    → s ≡ due → p ≡ None → read_slots (suc k) (due_after p) slots ≡ Ok rest → p ∷ rest ≡ code
    → (read_slots (suc k) None slots ≡ Ok rest → Holds None slots rest)
    → Holds (Some due) (s ∷ slots) code
holds_due k due s slots code p rest e occupant goes whole others =
    let goes_on : read_slots (suc k) None slots ≡ Ok rest = rw occupant at goes in
    let same : None ∷ rest ≡ code = rw (← occupant) whole in
    subst (Holds (Some due) (s ∷ slots)) same (holds_half due s slots rest e (others goes_on))

-- what is read from slots is spelled by them
pub code_is_spelled : (k : ℕ) (due : Option Slot) (slots : List Slot) (code : Code) → AllByRecursion IsSlot slots → HasSecondHalf due slots → read_slots k due slots ≡ Ok code → Holds due slots code
unfolding read_slots
code_is_spelled k None [] code fits room e =
    let same : [] ≡ code = ok_is _ _ e in
    subst (Holds None []) same (record { insns = tt; spelled = refl })
code_is_spelled k (Some due) [] code fits room e = absurd (cc)
code_is_spelled k None (s ∷ slots) code fits room e =
    let p = splits k None s slots code e in
    let r = occupant_reads s (slot_in_front slots) p.occupant p.read in
    let reads = insn_is_spelled s (slot_in_front slots) r.insn fits.0 (first_fits slots fits.1) r.read in
    holds_read k s slots code r.insn p.occupant p.rest reads r.occupant p.goes p.whole
    (λ room goes. code_is_spelled (suc k) (second_slot r.insn) slots p.rest fits.1 room goes)
code_is_spelled k (Some due) (s ∷ slots) code fits room e =
    let p = splits k (Some due) s slots code e in
    let half = half_reads s due p.occupant p.read in
    holds_due k due s slots code p.occupant p.rest half.0 half.1 p.goes p.whole
    (λ goes. code_is_spelled (suc k) None slots p.rest fits.1 tt goes)

-- ---- what is spelled

slots_fit_insn : (i : Insn) (rest : List Slot) → IsInsn i → AllByRecursion IsSlot rest → AllByRecursion IsSlot (insn_slots i ++ rest)
slots_fit_insn i rest h all = (first_is_slot i h, go (second_slot i) (second_is_slot i h))
  where
    go : (t : Option Slot) → HalfFits t → AllByRecursion IsSlot (option_to_list t ++ rest)
    go None f = all
    go (Some t) f = (f, all)

-- the slots that spell a program fit their fields
pub code_slots_fit : (b : Bool) (code : Code) → IsCode b code → AllByRecursion IsSlot (code_slots code)
code_slots_fit false [] h = tt
code_slots_fit true [] h = absurd h
code_slots_fit false (None ∷ code) h = absurd h
code_slots_fit true (None ∷ code) h = code_slots_fit false code h
code_slots_fit false (Some i ∷ code) h = slots_fit_insn i (code_slots code) h.0 (code_slots_fit (is_wide i) code h.1)
code_slots_fit true (Some i ∷ code) h = absurd h

-- a second slot stands in front of what follows it
pub follows_first : (t : Option Slot) (slots : List Slot) → Follows t (slot_in_front (option_to_list t ++ slots))
follows_first None slots = tt
follows_first (Some t) slots = refl

-- the flag and the second half that is due are the same thing
pub code_is_read : (k : ℕ) (due : Option Slot) (code : Code) → IsCode (is_some due) code → read_slots k due (option_to_list due ++ code_slots code) ≡ Ok code
unfolding read_slots
code_is_read k None [] h = refl
code_is_read k (Some due) [] h = absurd h
code_is_read k None (None ∷ code) h = absurd h
code_is_read k (Some due) (None ∷ code) h =
    rw (same_is due, code_is_read (suc k) None code h) refl
code_is_read k None (Some i ∷ code) h =
    let rest : IsCode (is_some (second_slot i)) code = rw (← wide_is i) h.1 in
    let read = insn_is_read i (slot_in_front (option_to_list (second_slot i) ++ code_slots code)) h.0 (follows_first (second_slot i) (code_slots code)) in
    rw (read, code_is_read (suc k) (second_slot i) code rest) refl
code_is_read k (Some due) (Some i ∷ code) h = absurd h

-- a program has as many slots as occupants
pub length-code_slots : (due : Option Slot) (code : Code) → IsCode (is_some due) code → length (option_to_list due ++ code_slots code) ≡ length code
length-code_slots None [] h = refl
length-code_slots (Some due) [] h = absurd h
length-code_slots None (None ∷ code) h = absurd h
length-code_slots (Some due) (None ∷ code) h = ap suc (length-code_slots None code h)
length-code_slots None (Some i ∷ code) h =
    let rest : IsCode (is_some (second_slot i)) code = rw (← wide_is i) h.1 in
    ap suc (length-code_slots (second_slot i) code rest)
length-code_slots (Some due) (Some i ∷ code) h = absurd h

-- ---- a program's occupants, one by one

-- each instruction of a program fits its fields
pub occupant_fits : (b : Bool) (code : Code) (k : ℕ) → IsCode b code → ForSome (get_or code k None) IsInsn
occupant_fits b [] k h = λ i e. absurd (cc)
occupant_fits true (None ∷ code) zero h = λ i e. absurd (cc)
occupant_fits true (None ∷ code) (suc k) h = occupant_fits false code k h
occupant_fits false (None ∷ code) k h = absurd h
occupant_fits false (Some i ∷ code) zero h = λ j e. let same : i ≡ j = cc in subst IsInsn same h.0
occupant_fits false (Some i ∷ code) (suc k) h = occupant_fits (is_wide i) code k h.1
occupant_fits true (Some i ∷ code) k h = absurd h

-- what was written, with the bytes of one more occupant
pub spelling_more : (code : Code) (k : ℕ) → k < length code
    → spelling (take (k + 1) code) ≡ spelling (take k code) ++ flat_map slot_bytes (occupant_slots (get_or code k None))
spelling_more code k h =
    rw (take_more code k None h) (simp (flat_map-append, append-nil))
