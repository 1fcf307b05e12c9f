-- Elements of maps: the checks of an offset, what shapes say of an element, and the state after a store
-- to one.
use Rattle.std.proofs.Common.{◌≡◌, ℕ, zero, suc, ◌+◌, ◌*◌, ◌%◌, ◌<◌, ◌≤◌, ◌⊎◌, inl, inr, ℤ, Bool, true, false, ◌&&◌, nat_eq, nat_le, List, [], ◌∷◌, length, slice_index_or, slice_get, Option, Some, None, Result, Ok, Err, ok_or, if◌then◌else◌, refl, sym, ap, subst, ◌∙◌, arith}
use Rattle.std.proofs.lemmas.Bool.{eqb-true, eq-eqb, leb-true, le-leb, and_from}
use Rattle.std.proofs.lemmas.Option.{slice_get_cases}
use Rattle.std.proofs.lemmas.List.{length-map}
use Rattle.scx_isa_semantics.specs.declared.operations.Size.{Size}
use Rattle.scx_isa_semantics.specs.declared.values.Value.{Value}
use Rattle.scx_isa_semantics.specs.declared.values.Value.TheVariants as value
use Rattle.scx_isa_semantics.specs.declared.values.Pointer.TheVariants as pointer
use Rattle.scx_isa_semantics.specs.Arithmetic.{at_distance}
use Rattle.scx_isa_semantics.specs.Memory.{Stack, within, aligned_within, size_bytes}
use Rattle.scx_isa_semantics.specs.Elements.{Contents, slots_in, Maps, count, elements, element, with_element, with_number, HoldBytes}
use Rattle.scx_isa_semantics.specs.Machine.{Machine, with_maps}
use Rattle.scx_maps.specs.declared.shape.Shape.{Shape}
use Rattle.scx_maps.specs.Contents.{lengths, lengths_in, lengths_of, kinds_of, HasShapes}
use Rattle.scx_isa_semantics.proofs.Bytes.{length-with_number}
use Rattle.scx_maps.proofs.Shaped.{length-entries-shaped, length-value-shaped, length-shaped, lengths_of-with_value}
use Rattle.scx_abs_ranges.specs.declared.ranges.Range.{Range}
use Rattle.scx_abs_ranges.specs.Ranges.{IsIn, IsWellFormed}
use Rattle.scx_abs_ranges.specs.Offsets.{are_inside, are_aligned}
use Rattle.scx_abs_ranges.proofs.ElementOffsets.{inside_is_exact, aligned_is_exact}
use Rattle.scx_abs.specs.declared.faults.Why.{Why}
use Rattle.scx_abs.specs.declared.faults.Why.TheVariants.{OutOfBounds, Misaligned}
use Rattle.scx_abs.specs.declared.kinds.Kind.{Kind}
use Rattle.scx_abs.specs.declared.kinds.Kind.TheVariants.{Unusable, Num, Elem, ElemOrNull, Task, TaskOrNull, MapRef}
use Rattle.scx_abs.specs.declared.kinds.Kind.TheVariants as kind
use Rattle.scx_abs.specs.declared.kinds.Cell.{Cell}
use Rattle.scx_abs.specs.declared.kinds.Cell.TheVariants.{Bytes, Pointer}
use Rattle.scx_abs.specs.declared.states.AbsState.{AbsState}
use Rattle.scx_abs.specs.Cells.{kind_of}
use Rattle.scx_abs.specs.States.{kind_at, cell_at}
use Rattle.scx_abs.specs.Stands.{HasElement, Stands, CellStands, IsMember}
use Rattle.scx_abs.specs.Checks.{size_of, element_size, offset_within, offset_for, offsets_for}

-- ---- checks of an offset

-- what holds of every refusal, and of each offset that both allow, holds of both
pub within_cases : (size : ℕ) (t : Option ℕ) (P : Result ℕ Why → Option ℕ → Type 0) → ((why : Why) (o : Option ℕ) → P (Err why) o)
    → ((at : ℕ) → P (Ok at) (Some at)) → P (offset_within size t) (within size t)
within_cases size None P none ok = none OutOfBounds None
within_cases size (Some at) P none ok =
    elim (nat_le at size) as (λ b. P (ok_or (if b then Some at else None) OutOfBounds) (if b then Some at else None)) [ true ↦ ok at | false ↦ none OutOfBounds None ]

-- the same of an offset for an access
pub offset_cases : (size n : ℕ) (t : Option ℕ) (P : Result ℕ Why → Option ℕ → Type 0) → ((why : Why) (o : Option ℕ) → P (Err why) o)
    → ((at : ℕ) → at + n ≤ size → at % n ≡ 0 → P (Ok at) (Some at)) → P (offset_for size n t) (aligned_within size n t)
offset_cases size n None P none ok = none OutOfBounds None
offset_cases size n (Some at) P none ok = go (nat_le (at + n) size) (nat_eq (at % n) 0) refl refl
  where
    go : (a b : Bool) → nat_le (at + n) size ≡ a → nat_eq (at % n) 0 ≡ b
        → P (if a then if b then Ok at else Err Misaligned else Err OutOfBounds) (if a && b then Some at else None)
    go true true d e = ok at (leb-true (at + n) size d) (eqb-true (at % n) 0 e)
    go true false d e = none Misaligned None
    go false b d e = none OutOfBounds None

some_is : (x y : ℕ) → Some x ≡ Some y → x ≡ y
some_is x y e = cc

aligned_at : (size n at : ℕ) (t : Option ℕ) → t ≡ Some at → at + n ≤ size → at % n ≡ 0 → aligned_within size n t ≡ Some at
aligned_at size n at t e inside aligned =
    ap (aligned_within size n) e ∙ ap (λ b. if b then Some at else None) (and_from (nat_le (at + n) size) (nat_eq (at % n) 0) (le-leb (at + n) size inside) (eq-eqb (at % n) 0 aligned))

-- what holds of every refusal, and of an offset that is allowed, holds of one of several offsets
pub offsets_cases : (size : ℕ) (s : Size) (r : Range) (k : ℤ) (p : ℕ) (P : Result (Unit {0}) Why → Option ℕ → Type 0) → IsWellFormed r → IsIn p r → ((why : Why) (o : Option ℕ) → P (Err why) o)
    → ((at : ℕ) → at + size_bytes s ≤ size → P (Ok tt) (Some at)) → P (offsets_for size (size_bytes s) r k) (aligned_within size (size_bytes s) (at_distance p k))
offsets_cases size s r k p P w i none ok = go (are_inside size (size_bytes s) r k) (are_aligned (size_bytes s) r k) refl refl
  where
    place : Option ℕ
    place = aligned_within size (size_bytes s) (at_distance p k)

    found : are_inside size (size_bytes s) r k ≡ true → are_aligned (size_bytes s) r k ≡ true → P (Ok tt) place
    found d e =
        let inside = (inside_is_exact size (size_bytes s) r k w).0 d p i in
        let aligned = (aligned_is_exact s r k w).0 e p i in
        let same : aligned.0 ≡ inside.0 = some_is aligned.0 inside.0 (sym aligned.1 ∙ inside.1.there) in
        let multiple : inside.0 % size_bytes s ≡ 0 = subst (λ at. at % size_bytes s ≡ 0) same aligned.2 in
        subst (P (Ok tt)) (sym (aligned_at size (size_bytes s) inside.0 (at_distance p k) inside.1.there inside.1.inside multiple)) (ok inside.0 inside.1.inside)

    go : (a b : Bool) → are_inside size (size_bytes s) r k ≡ a → are_aligned (size_bytes s) r k ≡ b → P (if a then if b then Ok tt else Err Misaligned else Err OutOfBounds) place
    go true true d e = found d e
    go true false d e = none Misaligned place
    go false b d e = none OutOfBounds place

-- ---- elements

-- only a map that is there has elements
slots_there : (contents : Contents) (m i : ℕ) → i < length (slots_in contents m) → m < length contents
slots_there [] m i h = absurd (omega (arith, h))
slots_there (x ∷ contents) zero i h = omega arith
slots_there (x ∷ contents) (suc m) i h = let rest = slots_there contents m i h in omega arith

pub map_there : (maps : Maps) (m i : ℕ) → HasElement maps m i → m < count maps
map_there maps m i h = slots_there maps.contents m i h

-- an element has as many bytes as the shape of its map says
pub element_sized : (shapes : List Shape) (maps : Maps) (m i : ℕ) → HasShapes shapes maps → HasElement maps m i → length (element maps m i) ≡ element_size shapes m
element_sized shapes maps m i shaped h = go (slice_get_cases shapes m).1
  where
    go : ((s : Shape) × (m < length shapes) × (slice_get shapes m ≡ Some s) × (slice_index_or shapes m s ≡ s)) ⊎ ((length shapes ≤ m) × (slice_get shapes m ≡ None))
        → length (element maps m i) ≡ size_of (slice_get shapes m)
    go (inl shape) =
        let count = length-entries-shaped shapes maps m shape.0 shaped shape.2 in
        rw (shape.2) (length-value-shaped shapes maps m i shape.0 shaped shape.2 (omega (arith, h, count)))
    go (inr past) =
        let there = map_there maps m i h in
        let long = length-shaped shapes maps shaped in
        absurd (omega (arith, past.0))

-- ---- a store to an element

-- a store to an element leaves how many bytes each has
pub with_number-lengths : (maps : Maps) (m i at n x : ℕ) → HasElement maps m i → at + n ≤ length (element maps m i)
    → lengths_of (with_element maps m i (with_number (element maps m i) at n x)) ≡ lengths_of maps
with_number-lengths maps m i at n x there room =
    lengths_of-with_value maps m i (with_number (element maps m i) at n x) (map_there maps m i there) there (length-with_number (element maps m i) at n x room)

-- ---- maps with as many elements of as many bytes

count_of : (contents : Contents) (m : ℕ) → length (slice_index_or (lengths_in contents) m []) ≡ length (slots_in contents m)
count_of [] m = refl
count_of (x ∷ contents) zero = length-map x (λ (v : List ℕ). length v)
count_of (x ∷ contents) (suc m) = count_of contents m

same_elements : (maps other : Maps) (m : ℕ) → lengths_of other ≡ lengths_of maps → length (elements other m) ≡ length (elements maps m)
same_elements maps other m e = sym (count_of other.contents m) ∙ ap (λ ks. length (slice_index_or ks m [])) e ∙ count_of maps.contents m

same_count : (maps other : Maps) → lengths_of other ≡ lengths_of maps → count other ≡ count maps
same_count maps other e = sym (length-map other.contents lengths) ∙ ap (λ (ks : List (List ℕ)). length ks) e ∙ length-map maps.contents lengths

-- kinds stand for the same values
stands_still : (maps other : Maps) (k : Kind) (v : Value) → lengths_of other ≡ lengths_of maps → Stands maps k v → Stands other k v
stands_still maps other Unusable v e h = tt
stands_still maps other (Num r) (value.Number n) e h = h
stands_still maps other (kind.Stack o) (value.Pointer (pointer.Stack p)) e h = h
stands_still maps other (Elem m r) (value.Pointer (pointer.Element n i p)) e h =
    let same = same_elements maps other n e in
    let there = h.2 in
    (h.0, h.1, omega arith)
stands_still maps other (ElemOrNull m) (value.Number n) e h = h
stands_still maps other (ElemOrNull m) (value.Pointer (pointer.Element n i p)) e h =
    let same = same_elements maps other n e in
    let there = h.2 in
    (h.0, h.1, omega arith)
stands_still maps other Task (value.Pointer (pointer.Task t)) e h = tt
stands_still maps other TaskOrNull (value.Number n) e h = h
stands_still maps other TaskOrNull (value.Pointer (pointer.Task t)) e h = tt
stands_still maps other (MapRef m) (value.Pointer (pointer.Map n)) e h =
    let same = same_count maps other e in
    let there = h.1 in
    (h.0, omega arith)
stands_still maps other k v e h = absurd h

cell_still : (maps other : Maps) (cell : Cell) (stack : Stack) (at : ℕ) → lengths_of other ≡ lengths_of maps → CellStands maps cell stack at → CellStands other cell stack at
cell_still maps other (Bytes set) stack at e h = h
cell_still maps other (Pointer k) stack at e h = (h.0, stands_still maps other (kind_of k) h.0 e h.1, h.2)

-- a state with other maps of the same shapes is stood for too
pub maps_member : (shapes : List Shape) (a : AbsState) (m : Machine) (other : Maps) → IsMember shapes a m → lengths_of other ≡ lengths_of m.maps → HoldBytes other → kinds_of other ≡ kinds_of m.maps → IsMember shapes a (with_maps m other)
maps_member shapes a m other h e bytes same = record {
  registers = λ r. stands_still m.maps other (kind_at a r) (m.registers r) e (h.registers r);
  cells = λ c. cell_still m.maps other (cell_at a c) m.stack (8 * c) e (h.cells c);
  maps = record { lengths = e ∙ h.maps.lengths; bytes = bytes; kinds = same ∙ h.maps.kinds };
}
