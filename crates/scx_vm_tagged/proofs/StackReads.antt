-- What a read of the marks of some bytes, as one number, says of the bytes.
use Rattle.std.proofs.Common.{◌≡◌, ℕ, zero, suc, ◌+◌, ◌*◌, ◌/◌, ◌%◌, ◌<◌, ◌≤◌, Bool, true, false, List, ◌∷◌, drop, get_or, nat_eq, Option, Some, None, option_map, if◌then◌else◌, refl, sym, ap, ◌∙◌, arith, add-one}
use Rattle.byteorder.specs.Endian.{little_from}
use Rattle.scx_isa_semantics.specs.declared.values.Pointer.{Pointer}
use Rattle.scx_isa_semantics.specs.declared.values.StackByte.{StackByte}
use Rattle.scx_isa_semantics.specs.declared.values.StackByte.TheVariants.{Unwritten, Byte, Part}
use Rattle.scx_isa_semantics.specs.declared.values.Pointer.TheVariants as pointer
use Rattle.scx_isa_semantics.specs.Memory.{bytes_at, number_in, same_pointer, are_parts, pointer_in}
use Rattle.scx_vm_tagged.specs.Stack.{part_of, byte_of, stack_of}
use Rattle.std.proofs.lemmas.List.{get_or-take, get_or-drop}
use borrow.Author.Tests.{eqb-true, eqb-false, ne_eqb, eq-eqb}
use borrow.Rule.Slice.PartMut.{mid_of}

-- the marks of so many written bytes, read as one number
abbrev pub all_written : ℕ → ℕ
all_written zero = 0
all_written (suc n) = 1 + 256 * all_written n

number_in-byte : (m b : ℕ) (p : Option Pointer) (j : ℕ) (rest : List StackByte) → number_in (byte_of m b p j ∷ rest) ≡ (if nat_eq m 1 then option_map (λ n. b + 256 * n) (number_in rest) else None)
number_in-byte m b p j rest = one (nat_eq m 1)
  where
    under : (zeros : Bool) (o : Option Pointer) → number_in ((if zeros then part_of o j else Unwritten) ∷ rest) ≡ None
    under true None = refl
    under true (Some q) = refl
    under false o = refl

    one : (ones : Bool) → number_in ((if ones then Byte b else if nat_eq m 0 then part_of p j else Unwritten) ∷ rest) ≡ (if ones then option_map (λ n. b + 256 * n) (number_in rest) else None)
    one true = refl
    one false = under (nat_eq m 0) p

low_marks : (m l n : ℕ) (same : Bool) → nat_eq l n ≡ same → m ≡ 1 → nat_eq (m + 256 * l) (1 + 256 * n) ≡ same
low_marks m l n true e one = let f = eqb-true l n e in eq-eqb _ _ (omega arith)
low_marks m l n false e one = let f = eqb-false l n e in ne_eqb _ _ (λ g. f (omega arith))

same_marks : (m l n : ℕ) → m < 256 → nat_eq (m + 256 * l) (1 + 256 * n) ≡ (if nat_eq m 1 then nat_eq l n else false)
same_marks m l n h = go (nat_eq m 1) refl
  where
    go : (one : Bool) → nat_eq m 1 ≡ one → nat_eq (m + 256 * l) (1 + 256 * n) ≡ (if one then nat_eq l n else false)
    go true e = low_marks m l n (nat_eq l n) refl (eqb-true m 1 e)
    go false e = let f = eqb-false m 1 e in ne_eqb _ _ (λ g. f (omega arith))

both : (one rest : Bool) (b n : ℕ) → (if one then option_map (λ n. b + 256 * n) (if rest then Some n else None) else None) ≡ (if if one then rest else false then Some (b + 256 * n) else None)
both true true b n = refl
both true false b n = refl
both false rest b n = refl

-- so many bytes hold a number where all of them were written
pub number_in-marked : (m b : List ℕ) (p : List (Option Pointer)) (n at : ℕ) → ((i : ℕ) → get_or m i 0 < 256) → number_in (bytes_at (stack_of m b p) at n) ≡ (if nat_eq (little_from at n m) (all_written n) then Some (little_from at n b) else None)
unfolding stack_of
number_in-marked m b p zero at small = refl
number_in-marked m b p (suc n) at small =
    number_in-byte (get_or m at 0) (get_or b at 0) (get_or p (at / 8) None) (at % 8) (bytes_at (stack_of m b p) (at + 1) n)
    ∙ ap (λ (r : Option ℕ). if nat_eq (get_or m at 0) 1 then option_map (λ n. get_or b at 0 + 256 * n) r else None) (rw add-one (number_in-marked m b p n (suc at) small))
    ∙ both (nat_eq (get_or m at 0) 1) (nat_eq (little_from (suc at) n m) (all_written n)) (get_or b at 0) (little_from (suc at) n b)
    ∙ ap (λ (t : Bool). if t then Some (get_or b at 0 + 256 * little_from (suc at) n b) else None) (sym (same_marks (get_or m at 0) (little_from (suc at) n m) (all_written n) (small at)))

-- a number read from a part is that which stands there in the whole
pub little_from-mid : (a m : ℕ) (xs : List ℕ) (j n : ℕ) → j + n ≤ m → little_from j n (mid_of a m xs) ≡ little_from (a + j) n xs
little_from-mid a m xs j zero h = refl
little_from-mid a m xs j (suc n) h =
    let byte : get_or (mid_of a m xs) j 0 ≡ get_or xs (a + j) 0 = get_or-take m (drop a xs) j 0 (omega arith) ∙ get_or-drop a xs j 0 in
    let rest = little_from-mid a m xs (suc j) n (omega arith) ∙ ap (λ (i : ℕ). little_from i n xs) (omega arith) in
    ap (λ (b : ℕ). b + 256 * little_from (suc j) n (mid_of a m xs)) byte ∙ ap (λ (r : ℕ). get_or xs (a + j) 0 + 256 * r) rest

-- a read whose marks are all set, and one whose marks are not
pub read_written : (m b : List ℕ) (p : List (Option Pointer)) (at r n marks x : ℕ) → ((i : ℕ) → get_or m i 0 < 256) → n ≤ r → marks ≡ little_from 0 n (mid_of at r m) → marks ≡ all_written n → x ≡ little_from 0 n (mid_of at r b) → Some x ≡ number_in (bytes_at (stack_of m b p) at n)
read_written m b p at r n marks x small fits e all f =
    let here : at + 0 ≡ at = omega arith in
    let same : little_from at n m ≡ all_written n = ap (λ (i : ℕ). little_from i n m) (sym here) ∙ sym (little_from-mid at r m 0 n (omega arith)) ∙ sym e ∙ all in
    let value : x ≡ little_from at n b = f ∙ little_from-mid at r b 0 n (omega arith) ∙ ap (λ (i : ℕ). little_from i n b) here in
    sym (number_in-marked m b p n at small ∙ ap (λ (t : Bool). if t then Some (little_from at n b) else None) (eq-eqb _ _ same) ∙ ap Some (sym value))

-- where some mark is 0 there is no number
pub read_unwritten : (m b : List ℕ) (p : List (Option Pointer)) (at r n marks : ℕ) → ((i : ℕ) → get_or m i 0 < 256) → n ≤ r → marks ≡ little_from 0 n (mid_of at r m) → (marks ≡ all_written n → ⊥) → None ≡ number_in (bytes_at (stack_of m b p) at n)
read_unwritten m b p at r n marks small fits e some =
    let here : at + 0 ≡ at = omega arith in
    let same : little_from at n m ≡ marks = ap (λ (i : ℕ). little_from i n m) (sym here) ∙ sym (little_from-mid at r m 0 n (omega arith)) ∙ sym e in
    sym (number_in-marked m b p n at small ∙ ap (λ (t : Bool). if t then Some (little_from at n b) else None) (ne_eqb _ _ (λ g. some (sym same ∙ g))))

-- ---- pointers

same_pointer-refl : (q : Pointer) → same_pointer q q ≡ true
same_pointer-refl (pointer.Stack o) = eq-eqb o o refl
same_pointer-refl (pointer.Task t) = eq-eqb t.0 t.0 refl
same_pointer-refl (pointer.Map m) = eq-eqb m m refl
same_pointer-refl (pointer.Element m i o) = rw (eq-eqb m m refl, eq-eqb o o refl, eq-eqb i i refl) refl

-- a byte under which a pointer lies is its part where its mark is clear
are_parts-byte : (q : Pointer) (m b i : ℕ) (rest : List StackByte) → are_parts q i (byte_of m b (Some q) i ∷ rest) ≡ (if nat_eq m 0 then are_parts q (suc i) rest else false)
are_parts-byte q m b i rest = go (nat_eq m 1) refl (nat_eq m 0) refl
  where
    go : (ones : Bool) → nat_eq m 1 ≡ ones → (zeros : Bool) → nat_eq m 0 ≡ zeros → are_parts q i ((if ones then Byte b else if zeros then Part q i else Unwritten) ∷ rest) ≡ (if zeros then are_parts q (suc i) rest else false)
    go true one true none = absurd (let e = eqb-true m 1 one in let f = eqb-true m 0 none in omega arith)
    go true one false none = refl
    go false one true none = rw (same_pointer-refl q, eq-eqb i i refl) refl
    go false one false none = refl

clear_marks : (m l : ℕ) → nat_eq (m + 256 * l) 0 ≡ (if nat_eq m 0 then nat_eq l 0 else false)
clear_marks m l = go (nat_eq m 0) refl
  where
    low : (none : Bool) → nat_eq l 0 ≡ none → m ≡ 0 → nat_eq (m + 256 * l) 0 ≡ none
    low true e h = let f = eqb-true l 0 e in eq-eqb _ _ (omega arith)
    low false e h = let f = eqb-false l 0 e in ne_eqb _ _ (λ g. f (omega arith))

    go : (none : Bool) → nat_eq m 0 ≡ none → nat_eq (m + 256 * l) 0 ≡ (if none then nat_eq l 0 else false)
    go true e = low (nat_eq l 0) refl (eqb-true m 0 e)
    go false e = let f = eqb-false m 0 e in ne_eqb _ _ (λ g. f (omega arith))

-- eight bytes from one on are the pointer's parts where their marks are clear
are_parts-marked : (m b : List ℕ) (p : List (Option Pointer)) (q : Pointer) (n i c : ℕ) → i + n ≡ 8 → get_or p c None ≡ Some q → are_parts q i (bytes_at (stack_of m b p) (8 * c + i) n) ≡ nat_eq (little_from (8 * c + i) n m) 0
unfolding stack_of
are_parts-marked m b p q zero i c all under = eq-eqb i 8 (omega arith)
are_parts-marked m b p q (suc n) i c all under =
    let cell : (8 * c + i) / 8 ≡ c = omega arith in
    let place : (8 * c + i) % 8 ≡ i = omega arith in
    let next : 8 * c + i + 1 ≡ 8 * c + suc i = omega arith in
    let next' : 8 * c + suc i ≡ suc (8 * c + i) = omega arith in
    let rest = are_parts-marked m b p q n (suc i) c (omega arith) under in
    ap (λ (o : Option Pointer). are_parts q i (byte_of (get_or m (8 * c + i) 0) (get_or b (8 * c + i) 0) o ((8 * c + i) % 8) ∷ bytes_at (stack_of m b p) (8 * c + i + 1) n)) (ap (λ (j : ℕ). get_or p j None) cell ∙ under)
    ∙ ap (λ (j : ℕ). are_parts q i (byte_of (get_or m (8 * c + i) 0) (get_or b (8 * c + i) 0) (Some q) j ∷ bytes_at (stack_of m b p) (8 * c + i + 1) n)) place
    ∙ are_parts-byte q (get_or m (8 * c + i) 0) (get_or b (8 * c + i) 0) i (bytes_at (stack_of m b p) (8 * c + i + 1) n)
    ∙ ap (λ (j : ℕ). if nat_eq (get_or m (8 * c + i) 0) 0 then are_parts q (suc i) (bytes_at (stack_of m b p) j n) else false) next
    ∙ ap (λ (t : Bool). if nat_eq (get_or m (8 * c + i) 0) 0 then t else false) (rest ∙ ap (λ (j : ℕ). nat_eq (little_from j n m) 0) next')
    ∙ sym (clear_marks (get_or m (8 * c + i) 0) (little_from (suc (8 * c + i)) n m))

pointer_in-over : (m b : ℕ) (q : Pointer) (j : ℕ) (rest : List StackByte) → pointer_in (byte_of m b (Some q) j ∷ rest) ≡ (if are_parts q 0 (byte_of m b (Some q) j ∷ rest) then Some q else None)
pointer_in-over m b q j rest = go (nat_eq m 1) (nat_eq m 0)
  where
    go : (ones zeros : Bool) → pointer_in ((if ones then Byte b else if zeros then Part q j else Unwritten) ∷ rest) ≡ (if are_parts q 0 ((if ones then Byte b else if zeros then Part q j else Unwritten) ∷ rest) then Some q else None)
    go true zeros = refl
    go false true = refl
    go false false = refl

pointer_in-none : (m b j : ℕ) (rest : List StackByte) → pointer_in (byte_of m b None j ∷ rest) ≡ None
pointer_in-none m b j rest = go (nat_eq m 1) (nat_eq m 0)
  where
    go : (ones zeros : Bool) → pointer_in ((if ones then Byte b else if zeros then Unwritten else Unwritten) ∷ rest) ≡ None
    go true zeros = refl
    go false true = refl
    go false false = refl

-- eight bytes hold the pointer stored there where none of them was written over
pointer_in-marked : (m b : List ℕ) (p : List (Option Pointer)) (at : ℕ) → at % 8 ≡ 0 → pointer_in (bytes_at (stack_of m b p) at 8) ≡ (if nat_eq (little_from at 8 m) 0 then get_or p (at / 8) None else None)
unfolding stack_of
pointer_in-marked m b p at aligned = go (get_or p (at / 8) None) refl
  where
    start : 8 * (at / 8) + 0 ≡ at
    start = omega arith

    neither : (t : Bool) → let none : Option Pointer = None in none ≡ (if t then None else None)
    neither true = refl
    neither false = refl

    go : (o : Option Pointer) → get_or p (at / 8) None ≡ o → pointer_in (byte_of (get_or m at 0) (get_or b at 0) o (at % 8) ∷ bytes_at (stack_of m b p) (at + 1) 7) ≡ (if nat_eq (little_from at 8 m) 0 then o else None)
    go None e = pointer_in-none (get_or m at 0) (get_or b at 0) (at % 8) (bytes_at (stack_of m b p) (at + 1) 7) ∙ neither (nat_eq (little_from at 8 m) 0)
    go (Some q) e =
        pointer_in-over (get_or m at 0) (get_or b at 0) q (at % 8) (bytes_at (stack_of m b p) (at + 1) 7)
        ∙ ap (λ (t : Bool). if t then Some q else None)
        (ap (λ (o : Option Pointer). are_parts q 0 (byte_of (get_or m at 0) (get_or b at 0) o (at % 8) ∷ bytes_at (stack_of m b p) (at + 1) 7)) (sym e)
        ∙ ap (λ (j : ℕ). are_parts q 0 (bytes_at (stack_of m b p) j 8)) (sym start)
        ∙ are_parts-marked m b p q 8 0 (at / 8) refl e
        ∙ ap (λ (j : ℕ). nat_eq (little_from j 8 m) 0) start)

-- where all eight are 0 there may be a pointer
pub read_clear : (m b : List ℕ) (p : List (Option Pointer)) (at r marks : ℕ) → at % 8 ≡ 0 → 8 ≤ r → marks ≡ little_from 0 8 (mid_of at r m) → marks ≡ 0 → get_or p (at / 8) None ≡ pointer_in (bytes_at (stack_of m b p) at 8)
read_clear m b p at r marks aligned fits e none =
    let here : at + 0 ≡ at = omega arith in
    let same : little_from at 8 m ≡ 0 = ap (λ (i : ℕ). little_from i 8 m) (sym here) ∙ sym (little_from-mid at r m 0 8 (omega arith)) ∙ sym e ∙ none in
    sym (pointer_in-marked m b p at aligned ∙ ap (λ (t : Bool). if t then get_or p (at / 8) None else None) (eq-eqb _ _ same))

-- where one isn't 0 there is none
pub read_over : (m b : List ℕ) (p : List (Option Pointer)) (at r marks : ℕ) → at % 8 ≡ 0 → 8 ≤ r → marks ≡ little_from 0 8 (mid_of at r m) → (marks ≡ 0 → ⊥) → None ≡ pointer_in (bytes_at (stack_of m b p) at 8)
read_over m b p at r marks aligned fits e some =
    let here : at + 0 ≡ at = omega arith in
    let same : little_from at 8 m ≡ marks = ap (λ (i : ℕ). little_from i 8 m) (sym here) ∙ sym (little_from-mid at r m 0 8 (omega arith)) ∙ sym e in
    sym (pointer_in-marked m b p at aligned ∙ ap (λ (t : Bool). if t then get_or p (at / 8) None else None) (ne_eqb _ _ (λ g. some (sym same ∙ g))))
