-- Reading fails exactly at the first fault.
use Rattle.std.proofs.Common.{◌≡◌, ◌≢◌, ℕ, suc, ◌+◌, ◌/◌, ◌%◌, Bool, true, false, nat_eq, nat_lt, List, [], ◌∷◌, ◌++◌, length, Option, Some, None, Result, Ok, Err, IfErr, refl, sym, ap, subst, ◌∙◌, arith, is_some, append_assoc}
use Rattle.std.specs.Option.{option_to_list}
use Rattle.std.specs.List.{AllByRecursion}
use Rattle.std.proofs.lemmas.Bool.{eqb-true, eqb-false, ltb-true, ltb-false, lt-ltb, ne_eqb}
use Rattle.scx_isa_encoding.specs.declared.slots.Slot.{Slot}
use Rattle.scx_isa_semantics.specs.declared.instructions.Insn.{Insn}
use Rattle.scx_isa_encoding.specs.declared.faults.DecodeFault.{DecodeFault}
use Rattle.scx_isa_encoding.specs.declared.faults.DecodeFault.TheVariants.{Empty, TooLong, NotWholeSlots, UnusedField}
use Rattle.scx_isa.specs.declared.faults.DecodeError.{DecodeError}
use Rattle.scx_isa.specs.declared.faults.DecodeError.TheVariants as errors
use Rattle.scx_isa_semantics.specs.Code.{Code}
use Rattle.scx_isa_encoding.specs.Slots.{slots_in, same_slot, IsSlot}
use Rattle.scx_isa_encoding.specs.Spelling.{first_slot, second_slot, IsInsn}
use Rattle.scx_isa.specs.Spelling.{code_slots, IsCode, HasProgramLength, Spells}
use Rattle.scx_isa.specs.declared.program.TheConstants.{MAX_SLOTS}
use Rattle.scx_isa_semantics.specs.Results.{◌>>=◌}
use Rattle.scx_isa_encoding.specs.Reading.{insn_at}
use Rattle.scx_isa.specs.Reading.{Gives, slot_in_front, read_slots, read_program}
use Rattle.scx_isa.specs.FirstFault.{IsRest, FailsAtInsn, FailsInHalf, IsFirstFault, NoByte, CutSlot, PastLimit, AtInsn, InHalf, IsRefusal}
use Rattle.scx_isa_encoding.proofs.Bytes.{IsBytes, slots_fit}
use Rattle.scx_isa_encoding.proofs.Insns.{insn_is_spelled, insn_is_read, is_same, same_is}
use Rattle.scx_isa.proofs.Codes.{wide_is, follows_first}
use Rattle.scx_isa.proofs.Programs.{slots_are_read, program_is_read}

-- ---- how reading fails

abbrev failed : {A : Type 0} → DecodeFault → ℕ → Result A (DecodeFault × ℕ)
failed fault k = Err (fault, k)

same_fault : (e fault : DecodeFault) (k j : ℕ) → failed {A = Code} e k ≡ failed fault j → (e ≡ fault) × (k ≡ j)
same_fault e fault k j h =
    let pair : (e, k) ≡ (fault, j) = cc in
    (ap (λ (p : DecodeFault × ℕ). p.0) pair, ap (λ (p : DecodeFault × ℕ). p.1) pair)

behind_fails : (p : Option Insn) (r : Result Code (DecodeFault × ℕ)) (fault : DecodeFault) (j : ℕ) → (r >>= λ code. Ok (p ∷ code)) ≡ failed {A = Code} fault j → r ≡ Err (fault, j)
behind_fails p (Ok code) fault j h = absurd (cc)
behind_fails p (Err e) fault j h = let same : e ≡ (fault, j) = cc in ap (λ d. Err d) same

-- reading fails at the first slot, or behind the instruction that begins there
data Fails_first (k : ℕ) (s : Slot) (slots : List Slot) (fault : DecodeFault) (j : ℕ) : Type 0 where
  Here : insn_at s (slot_in_front slots) ≡ Err fault → j ≡ k → Fails_first k s slots fault j
  Behind : (i : Insn) → insn_at s (slot_in_front slots) ≡ Ok i → read_slots (suc k) (second_slot i) slots ≡ Err (fault, j) → Fails_first k s slots fault j

fails_first : (k : ℕ) (s : Slot) (slots : List Slot) (fault : DecodeFault) (j : ℕ) → read_slots k None (s ∷ slots) ≡ Err (fault, j) → Fails_first k s slots fault j
unfolding read_slots
fails_first k s slots fault j e = go (insn_at s (slot_in_front slots)) refl
  where
    go : (r : Result Insn DecodeFault) → insn_at s (slot_in_front slots) ≡ r → Fails_first k s slots fault j
    go (Ok i) t = Behind i t (behind_fails (Some i) (read_slots (suc k) (second_slot i) slots) fault j (rw t at e))
    go (Err d) t =
        let here : failed {A = Code} d k ≡ failed fault j = rw t at e in
        let same = same_fault d fault k j here in
        Here (t ∙ ap (λ f. Err f) same.0) (sym same.1)

-- reading fails in the second half that is due, or behind it
data Fails_half (k : ℕ) (due s : Slot) (slots : List Slot) (fault : DecodeFault) (j : ℕ) : Type 0 where
  In : s ≢ due → UnusedField ≡ fault → j ≡ k → Fails_half k due s slots fault j
  Past : s ≡ due → read_slots (suc k) None slots ≡ Err (fault, j) → Fails_half k due s slots fault j

fails_half : (k : ℕ) (due s : Slot) (slots : List Slot) (fault : DecodeFault) (j : ℕ) → read_slots k (Some due) (s ∷ slots) ≡ Err (fault, j) → Fails_half k due s slots fault j
unfolding read_slots
fails_half k due s slots fault j e = go (same_slot s due) refl
  where
    other : same_slot s due ≡ false → s ≢ due
    other t h = let same : same_slot due due ≡ false = rw h at t in let bad : true ≡ false = sym (same_is due) ∙ same in absurd (cc)

    go : (b : Bool) → same_slot s due ≡ b → Fails_half k due s slots fault j
    go true t = Past (is_same s due t) (behind_fails None (read_slots (suc k) None slots) fault j (rw t at e))
    go false t =
        let here : failed {A = Code} UnusedField k ≡ failed fault j = rw t at e in
        let same = same_fault UnusedField fault k j here in
        In (other t) same.0 (sym same.1)

-- ---- where reading fails is the first fault

-- the first fault of the slots from the k-th on, of which the first begins an instruction
data FailsFrom (k : ℕ) (slots : List Slot) (fault : DecodeFault) (j : ℕ) : Type 0 where
  FromInsn : (n : ℕ) → j ≡ k + n → FailsAtInsn slots fault n → FailsFrom k slots fault j
  FromHalf : (n : ℕ) → j ≡ suc (k + n) → UnusedField ≡ fault → FailsInHalf slots n → FailsFrom k slots fault j

-- slots with others in front of them, which spell whole instructions
abbrev Prepends : ℕ → List Slot → List Slot → Type 0
Prepends m slots longer = (k : ℕ) (rest : List Slot) → IsRest slots k rest → IsRest longer (m + k) rest

prepends_one : (s : Slot) (i : Insn) (slots : List Slot) → s ≡ first_slot i → IsInsn i → second_slot i ≡ None → Prepends 1 slots (s ∷ slots)
prepends_one s i slots e h narrow k rest r = record {
  front = Some i ∷ r.front;
  insns = (h, rw (wide_is i, narrow) r.insns);
  split = rw (e, narrow, r.split) refl;
  number = omega (arith, r.number);
}

prepends_two : (s t : Slot) (i : Insn) (slots : List Slot) → s ≡ first_slot i → IsInsn i → second_slot i ≡ Some t → Prepends 2 slots (s ∷ t ∷ slots)
prepends_two s t i slots e h wide k rest r = record {
  front = Some i ∷ None ∷ r.front;
  insns = (h, rw (wide_is i, wide) r.insns);
  split = rw (e, wide, r.split) refl;
  number = omega (arith, r.number);
}

fails_behind : (m k from : ℕ) (slots longer : List Slot) (fault : DecodeFault) (j : ℕ) → from ≡ m + k → Prepends m slots longer → FailsFrom from slots fault j → FailsFrom k longer fault j
fails_behind m k from slots longer fault j c more (FromInsn n e f) =
    FromInsn (m + n) (omega arith) (record { slot = f.slot; after = f.after; rest = more n _ f.rest; fails = f.fails })
fails_behind m k from slots longer fault j c more (FromHalf n e d f) =
    FromHalf (m + n) (omega arith) d (record {
      slot = f.slot;
      half = f.half;
      after = f.after;
      rest = more n _ f.rest;
      insn = f.insn;
      begins = f.begins;
      due = f.due;
      wide = f.wide;
      fails = f.fails;
    })

starts : (slots : List Slot) → IsRest slots 0 slots
starts slots = record { front = []; insns = tt; split = refl; number = refl }

fails_here : (k : ℕ) (s : Slot) (slots : List Slot) (fault : DecodeFault) (j : ℕ) → insn_at s (slot_in_front slots) ≡ Err fault → j ≡ k → FailsFrom k (s ∷ slots) fault j
fails_here k s slots fault j e same = FromInsn 0 (omega arith) (record { slot = s; after = slots; rest = starts (s ∷ slots); fails = e })

-- what reading fails by behind an instruction is the first fault there
fails_on : (k : ℕ) (s t : Slot) (slots : List Slot) (fault : DecodeFault) (j : ℕ) (i : Insn) → s ≡ first_slot i → IsInsn i → insn_at s (Some t) ≡ Ok i
    → read_slots (suc k) (second_slot i) (t ∷ slots) ≡ Err (fault, j)
    → (read_slots (suc k) None (t ∷ slots) ≡ Err (fault, j) → FailsFrom (suc k) (t ∷ slots) fault j)
    → (read_slots (suc (suc k)) None slots ≡ Err (fault, j) → FailsFrom (suc (suc k)) slots fault j)
    → FailsFrom k (s ∷ t ∷ slots) fault j
fails_on k s t slots fault j i e h begins fails one two = go (second_slot i) refl
  where
    go : (o : Option Slot) → second_slot i ≡ o → FailsFrom k (s ∷ t ∷ slots) fault j
    go None narrow = fails_behind 1 k (suc k) (t ∷ slots) (s ∷ t ∷ slots) fault j (omega arith) (prepends_one s i (t ∷ slots) e h narrow) (one (rw narrow at fails))
    go (Some due) wide = elim (fails_half (suc k) due t slots fault j (rw wide at fails)) [
      | In other d same ↦ FromHalf 0 (omega arith) d (record { slot = s; half = t; after = slots; rest = starts _; insn = i; begins = begins; due = due; wide = wide; fails = other })
      | Past same rest ↦ fails_behind 2 k (suc (suc k)) slots (s ∷ t ∷ slots) fault j (omega arith) (prepends_two s t i slots e h (wide ∙ ap (λ d. Some d) (sym same))) (two rest)
    ]

reads_fail : (k : ℕ) (slots : List Slot) (fault : DecodeFault) (j : ℕ) → AllByRecursion IsSlot slots → read_slots k None slots ≡ Err (fault, j) → FailsFrom k slots fault j
unfolding read_slots
reads_fail k [] fault j fits e = absurd (cc)
reads_fail k (s ∷ []) fault j fits e =
    elim (fails_first k s [] fault j e) [
      | Here h same ↦ fails_here k s [] fault j h same
      | Behind i h rest ↦ let bad : Ok [] ≡ failed fault j = rest in absurd (cc)
    ]
reads_fail k (s ∷ t ∷ slots) fault j fits e =
    elim (fails_first k s (t ∷ slots) fault j e) [
      | Here h same ↦ fails_here k s (t ∷ slots) fault j h same
      | Behind i h rest ↦
          let reads = insn_is_spelled s (Some t) i fits.0 fits.1.0 h in
          fails_on k s t slots fault j i reads.slot reads.insn h rest
          (λ f. reads_fail (suc k) (t ∷ slots) fault j fits.1 f)
          (λ f. reads_fail (suc (suc k)) slots fault j fits.1.1 f)
    ]

-- ---- at the first fault reading fails

-- whole instructions in front of a fault are read
front_is_read : (k n : ℕ) (due : Option Slot) (front : Code) (rest : List Slot) (e : DecodeFault × ℕ) → IsCode (is_some due) front → n ≡ k + length front
    → read_slots n None rest ≡ Err e → read_slots k due (option_to_list due ++ (code_slots front ++ rest)) ≡ Err e
unfolding read_slots
front_is_read k n None [] rest e h m fails = let same : n ≡ k = omega arith in rw same at fails
front_is_read k n (Some due) [] rest e h m fails = absurd h
front_is_read k n None (None ∷ front) rest e h m fails = absurd h
front_is_read k n (Some due) (None ∷ front) rest e h m fails =
    rw (same_is due, front_is_read (suc k) n None front rest e h (omega arith) fails) refl
front_is_read k n None (Some i ∷ front) rest e h m fails =
    let code : IsCode (is_some (second_slot i)) front = rw (← wide_is i) h.1 in
    let read = insn_is_read i (slot_in_front (option_to_list (second_slot i) ++ (code_slots front ++ rest))) h.0 (follows_first (second_slot i) (code_slots front ++ rest)) in
    let cons : read_slots k None (first_slot i ∷ (option_to_list (second_slot i) ++ (code_slots front ++ rest))) ≡ Err e =
    rw (read, front_is_read (suc k) n (second_slot i) front rest e code (omega arith) fails) refl in
    subst (λ slots. read_slots k None (first_slot i ∷ slots) ≡ Err e) (sym (append_assoc (option_to_list (second_slot i)) (code_slots front) rest)) cons
front_is_read k n (Some due) (Some i ∷ front) rest e h m fails = absurd h

-- what reading the rest fails by, reading all fails by
rest_fails : (slots rest : List Slot) (k : ℕ) (e : DecodeFault × ℕ) → IsRest slots k rest → read_slots k None rest ≡ Err e → read_slots 0 None slots ≡ Err e
rest_fails slots rest k e r fails = rw r.split (front_is_read 0 k None r.front rest e r.insns (omega (arith, r.number)) fails)

no_insn : (k : ℕ) (s : Slot) (slots : List Slot) (fault : DecodeFault) → insn_at s (slot_in_front slots) ≡ Err fault → read_slots k None (s ∷ slots) ≡ Err (fault, k)
unfolding read_slots
no_insn k s slots fault e = rw e refl

insn_fails : (slots : List Slot) (fault : DecodeFault) (k : ℕ) → FailsAtInsn slots fault k → read_slots 0 None slots ≡ Err (fault, k)
insn_fails slots fault k f = rest_fails slots _ k (fault, k) f.rest (no_insn k f.slot f.after fault f.fails)

no_half : (k : ℕ) (s t : Slot) (slots : List Slot) (i : Insn) (due : Slot) → insn_at s (Some t) ≡ Ok i → second_slot i ≡ Some due → same_slot t due ≡ false
    → read_slots k None (s ∷ t ∷ slots) ≡ Err (UnusedField, suc k)
unfolding read_slots
no_half k s t slots i due e wide other = rw (e, wide, other) refl

not_same : (s t : Slot) → s ≢ t → same_slot s t ≡ false
not_same s t other = go (same_slot s t) refl
  where
    go : (b : Bool) → same_slot s t ≡ b → same_slot s t ≡ false
    go true e = absurd (other (is_same s t e))
    go false e = e

half_fails : (slots : List Slot) (k : ℕ) → FailsInHalf slots k → read_slots 0 None slots ≡ Err (UnusedField, suc k)
half_fails slots k f = rest_fails slots _ k (UnusedField, suc k) f.rest (no_half k f.slot f.half f.after f.insn f.due f.begins f.wide (not_same f.half f.due f.fails))

-- ---- what is wrong with bytes first

at_fault : (bytes : List ℕ) (e fault : DecodeFault) (k slot : ℕ) → IsFirstFault bytes e k → failed {A = Code} e k ≡ failed fault slot → IsFirstFault bytes fault slot
at_fault bytes e fault k slot h same =
    let p = same_fault e fault k slot same in
    subst (IsFirstFault bytes fault) p.1 (subst (λ d. IsFirstFault bytes d k) p.0 h)

slots_fail : (bytes : List ℕ) (fault : DecodeFault) (slot : ℕ) → HasProgramLength bytes → FailsFrom 0 (slots_in (length bytes / 8) bytes) fault slot → IsFirstFault bytes fault slot
slots_fail bytes fault slot long (FromInsn n e f) =
    let same : n ≡ slot = omega arith in
    subst (IsFirstFault bytes fault) same (AtInsn fault n long f)
slots_fail bytes fault slot long (FromHalf n e d f) =
    let same : suc n ≡ slot = omega arith in
    subst (IsFirstFault bytes fault) same (subst (λ d. IsFirstFault bytes d (suc n)) d (InHalf n long f))

-- the fault that reading gives is the first
pub fault_is_first : (bytes : List ℕ) (fault : DecodeFault) (slot : ℕ) → IsBytes bytes → read_program bytes ≡ Err (fault, slot) → IsFirstFault bytes fault slot
fault_is_first bytes fault slot fits e = go (nat_eq (length bytes) 0) (nat_lt 0 (length bytes % 8)) (nat_lt MAX_SLOTS (length bytes / 8)) refl refl refl
  where
    go : (a b c : Bool) → nat_eq (length bytes) 0 ≡ a → nat_lt 0 (length bytes % 8) ≡ b → nat_lt MAX_SLOTS (length bytes / 8) ≡ c → IsFirstFault bytes fault slot
    go true b c x y z = at_fault bytes Empty fault 0 slot (NoByte (eqb-true _ _ x)) (rw x at e)
    go false true c x y z = at_fault bytes NotWholeSlots fault (length bytes / 8) slot (CutSlot (ltb-true _ _ y)) (rw (x, y) at e)
    go false false true x y z =
        let whole : length bytes % 8 ≡ 0 = omega (arith, ltb-false _ _ y) in
        at_fault bytes TooLong fault MAX_SLOTS slot (PastLimit whole (ltb-true _ _ z)) (rw (x, y, z) at e)
    go false false false x y z =
        let nonzero = eqb-false _ _ x in
        let read : read_slots 0 None (slots_in (length bytes / 8) bytes) ≡ Err (fault, slot) = rw (x, y, z) at e in
        slots_fail bytes fault slot (record { some = omega arith; whole = omega (arith, ltb-false _ _ y); fits = ltb-false _ _ z })
        (reads_fail 0 _ fault slot (slots_fit (length bytes / 8) bytes fits) read)

-- the first fault is the one that reading gives
pub first_fault_is_read : (bytes : List ℕ) (fault : DecodeFault) (slot : ℕ) → IsFirstFault bytes fault slot → read_program bytes ≡ Err (fault, slot)
first_fault_is_read bytes fault slot (NoByte none) = rw none refl
first_fault_is_read bytes fault slot (CutSlot cut) =
    let nonzero : nat_eq (length bytes) 0 ≡ false = ne_eqb _ _ (omega arith) in
    rw (nonzero, lt-ltb _ _ cut) refl
first_fault_is_read bytes fault slot (PastLimit whole many) =
    let nonzero : nat_eq (length bytes) 0 ≡ false = ne_eqb _ _ (omega arith) in
    rw (nonzero, whole, lt-ltb _ _ many) refl
first_fault_is_read bytes fault slot (AtInsn _ _ long f) = slots_are_read bytes long ∙ insn_fails _ fault slot f
first_fault_is_read bytes fault slot (InHalf k long f) = slots_are_read bytes long ∙ half_fails _ k f

-- so there is at most one
pub one_first_fault : (bytes : List ℕ) (fault other : DecodeFault) (slot place : ℕ) → IsFirstFault bytes fault slot → IsFirstFault bytes other place → (fault ≡ other) × (slot ≡ place)
one_first_fault bytes fault other slot place p q =
    same_fault fault other slot place (sym (first_fault_is_read bytes fault slot p) ∙ first_fault_is_read bytes other place q)

-- bytes with a first fault spell no program
pub faulty_bytes_spell_nothing : (bytes : List ℕ) (fault : DecodeFault) (slot : ℕ) (code : Code) → IsFirstFault bytes fault slot → ¬ Spells bytes code
faulty_bytes_spell_nothing bytes fault slot code slot_in_front spells =
    let bad : Ok code ≡ failed fault slot = sym (program_is_read bytes code spells) ∙ first_fault_is_read bytes fault slot slot_in_front in
    absurd (cc)

-- ---- what a decoder that gives this reading ensures

-- a refusal names the first fault
pub is_refused : (bytes : List ℕ) (r : Result Code DecodeError) → IsBytes bytes → Gives (λ code. code) r (read_program bytes)
    → (r ≡ Err errors.OutOfMemory → HasProgramLength bytes) → IfErr r (IsRefusal bytes)
is_refused bytes (Ok code) fits e memory = tt
is_refused bytes (Err (errors.Refused fault slot)) fits e memory = fault_is_first bytes fault slot fits e
is_refused bytes (Err errors.OutOfMemory) fits e memory = memory refl
