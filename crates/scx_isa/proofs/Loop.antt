-- Reading slots one after the other, as a loop does.
use Rattle.std.proofs.Common.{◌≡◌, ℕ, suc, ◌+◌, ◌*◌, ◌-◌, ◌≤◌, ◌<◌, List, [], ◌∷◌, ◌++◌, length, drop, Option, Result, Ok, Err, refl, sym, ap, ◌∙◌, append_assoc, arith, nat_lt, le-ltb, zero, length-drop, true, false}
use Rattle.std.proofs.lemmas.List.{append-nil}
use Rattle.scx_isa_encoding.specs.declared.slots.Slot.{Slot}
use Rattle.scx_isa_semantics.specs.declared.instructions.Insn.{Insn}
use Rattle.scx_isa_encoding.specs.declared.faults.DecodeFault.{DecodeFault}
use Rattle.scx_isa.specs.declared.faults.DecodeError.{DecodeError}
use Rattle.scx_isa.specs.declared.faults.DecodeError.TheVariants as errors
use Rattle.scx_isa_semantics.specs.Code.{Code}
use Rattle.scx_isa_encoding.specs.Slots.{slot_at, slots_in, front_slot}
use Rattle.scx_isa_semantics.specs.Results.{◌>>=◌}
use Rattle.scx_isa_encoding.specs.Reading.{occupant_at, due_after}
use Rattle.scx_isa.specs.Reading.{Fails, slot_in_front, at_slot, read_slots}

-- what was read before, and what is still read
abbrev pub with_front : Code → Result Code (DecodeFault × ℕ) → Result Code (DecodeFault × ℕ)
with_front front read = read >>= λ code. Ok (front ++ code)

-- what is read from the bytes that are left
abbrev pub rest_of : ℕ → ℕ → Option Slot → List ℕ → Result Code (DecodeFault × ℕ)
rest_of slots number due bytes = read_slots number due (slots_in (slots - number) bytes)

regroup : (front : Code) (p : Option Insn) (read : Result Code (DecodeFault × ℕ)) → with_front front (read >>= λ code. Ok (p ∷ code)) ≡ with_front (front ++ p ∷ []) read
regroup front p (Ok code) = ap (λ (c : Code). Ok c) (simp append_assoc)
regroup front p (Err e) = refl

-- the first slot, as the bytes show it
pub front_is : (n : ℕ) (bytes : List ℕ) → length bytes ≡ 8 * n → slot_in_front (slots_in n bytes) ≡ front_slot bytes
front_is zero bytes e =
    let short : nat_lt (length bytes) 8 ≡ true = rw e refl in
    rw short refl
front_is (suc n) bytes e =
    let many : 8 ≤ length bytes = omega arith in
    let long : nat_lt (length bytes) 8 ≡ false = le-ltb _ _ many in
    rw long refl

step_of : (k : ℕ) (due : Option Slot) (n : ℕ) (rest : List ℕ) (p : Option Insn) → length rest ≡ 8 * suc n
    → at_slot k (occupant_at due (slot_at rest) (front_slot (drop 8 rest))) ≡ Ok p
    → read_slots k due (slots_in (suc n) rest) ≡ (read_slots (suc k) (due_after p) (slots_in n (drop 8 rest)) >>= λ code. Ok (p ∷ code))
unfolding read_slots
step_of k due n rest p e h =
    let behind : length (drop 8 rest) ≡ 8 * n = omega (arith, length-drop 8 rest) in
    rw (front_is n (drop 8 rest) behind, h) refl

-- one slot more is read
pub goes_on : (front : Code) (slots k : ℕ) (due : Option Slot) (rest : List ℕ) (p : Option Insn) (total : Result Code (DecodeFault × ℕ)) → k < slots → length rest ≡ 8 * (slots - k)
    → at_slot k (occupant_at due (slot_at rest) (front_slot (drop 8 rest))) ≡ Ok p
    → with_front front (rest_of slots k due rest) ≡ total
    → with_front (front ++ p ∷ []) (rest_of slots (k + 1) (due_after p) (drop 8 rest)) ≡ total
goes_on front slots k due rest p total lt e h so_far =
    let n : slots - k ≡ suc (slots - (k + 1)) = omega arith in
    let long : length rest ≡ 8 * suc (slots - (k + 1)) = omega arith in
    let one : with_front front (rest_of slots k due rest) ≡ with_front (front ++ p ∷ []) (read_slots (suc k) (due_after p) (slots_in (slots - (k + 1)) (drop 8 rest))) =
    rw (n, step_of k due (slots - (k + 1)) rest p long h) (regroup front p (read_slots (suc k) (due_after p) (slots_in (slots - (k + 1)) (drop 8 rest)))) in
    let same : suc k ≡ k + 1 = omega arith in
    let next : with_front (front ++ p ∷ []) (read_slots (k + 1) (due_after p) (slots_in (slots - (k + 1)) (drop 8 rest))) ≡ with_front front (rest_of slots k due rest) =
    ap (λ j. with_front (front ++ p ∷ []) (read_slots j (due_after p) (slots_in (slots - (k + 1)) (drop 8 rest)))) (sym same) ∙ sym one in
    next ∙ so_far

fails_of : (k : ℕ) (due : Option Slot) (n : ℕ) (rest : List ℕ) (e : DecodeFault × ℕ) → length rest ≡ 8 * suc n
    → at_slot k (occupant_at due (slot_at rest) (front_slot (drop 8 rest))) ≡ Err e
    → read_slots k due (slots_in (suc n) rest) ≡ Err e
unfolding read_slots
fails_of k due n rest e l h =
    let behind : length (drop 8 rest) ≡ 8 * n = omega (arith, length-drop 8 rest) in
    rw (front_is n (drop 8 rest) behind, h) refl

-- a slot that is refused ends the reading
pub ends : (error : DecodeError) (front : Code) (slots k : ℕ) (due : Option Slot) (rest : List ℕ) (total : Result Code (DecodeFault × ℕ)) → k < slots → length rest ≡ 8 * (slots - k)
    → Fails error (at_slot k (occupant_at due (slot_at rest) (front_slot (drop 8 rest))))
    → with_front front (rest_of slots k due rest) ≡ total
    → Fails error total
ends (errors.Refused fault slot) front slots k due rest total lt e h so_far =
    let n : slots - k ≡ suc (slots - (k + 1)) = omega arith in
    let long : length rest ≡ 8 * suc (slots - (k + 1)) = omega arith in
    let one : with_front front (rest_of slots k due rest) ≡ Err (fault, slot) = rw (n, fails_of k due (slots - (k + 1)) rest (fault, slot) long h) refl in
    sym so_far ∙ one
ends errors.OutOfMemory front slots k due rest total lt e h so_far = tt

-- past the last slot the reading is done
pub is_done : (front : Code) (slots k : ℕ) (due : Option Slot) (rest : List ℕ) (total : Result Code (DecodeFault × ℕ)) → slots ≤ k
    → with_front front (rest_of slots k due rest) ≡ total → total ≡ Ok front
unfolding read_slots
is_done front slots k due rest total le so_far =
    let n : slots - k ≡ 0 = omega arith in
    let one : with_front front (rest_of slots k due rest) ≡ Ok front = rw n (ap (λ (c : Code). Ok c) (append-nil front)) in
    sym so_far ∙ one
