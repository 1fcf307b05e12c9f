-- Loads and stores in a state and in one that it covers.
use Rattle.std.proofs.Common.{◌≡◌, ℕ, zero, suc, ◌+◌, ◌/◌, ◌%◌, ◌<◌, ◌≤◌, ◌⊎◌, inl, inr, ℤ, Bool, true, false, ◌&&◌, ◌||◌, nat_le, nat_lt, List, Option, Some, None, Result, Ok, Err, if◌then◌else◌, refl, sym, ap, subst, ◌∙◌, arith}
use Rattle.std.proofs.lemmas.Bool.{and_parts, and_from, or_cases, or_right}
use Rattle.scx_isa_semantics.specs.declared.instructions.Operand.{Operand}
use Rattle.scx_isa_semantics.specs.declared.operations.Width.TheVariants.{Bits64}
use Rattle.scx_isa_semantics.specs.declared.operations.Size.{Size}
use Rattle.scx_isa_semantics.specs.declared.operations.Size.TheVariants as size
use Rattle.scx_isa_semantics.specs.declared.operations.Access.{Access}
use Rattle.scx_isa_semantics.specs.declared.operations.Access.TheVariants as access
use Rattle.scx_isa_semantics.specs.declared.registers.Register.{Register}
use Rattle.scx_isa_semantics.specs.Registers.{number}
use Rattle.scx_isa_semantics.specs.Arithmetic.{at_distance}
use Rattle.scx_isa_semantics.specs.Memory.{size_bytes, access_size, stack_size}
use Rattle.scx_isa_semantics.specs.declared.host_tables.Field.{Field}
use Rattle.scx_isa_semantics.specs.HostTables.{is_writable, is_known_field, field_at}
use Rattle.scx_isa_semantics.specs.declared.rules.Rules.{Rules}
use Rattle.scx_isa_semantics.specs.Meaning.{is_plain}
use Rattle.scx_isa_encoding.specs.Spelling.{IsOperand}
use Rattle.scx_maps.specs.declared.shape.Shape.{Shape}
use Rattle.scx_vm.specs.declared.context.Context.{Context}
use Rattle.scx_abs.specs.declared.faults.Why.{Why}
use Rattle.scx_abs.specs.declared.faults.Why.TheVariants.{UnwrittenStack, OutOfBounds, Misaligned, TaskField}
use Rattle.scx_abs_ranges.specs.declared.ranges.Range.{Range}
use Rattle.scx_abs_ranges.specs.Ranges.{IsWellFormed, CoversRange}
use Rattle.scx_abs_ranges.specs.Offsets.{are_inside, are_aligned}
use Rattle.scx_abs_ranges.proofs.ElementOffsets.{accesses_are_monotone}
use Rattle.scx_abs_ranges.specs.Results.{loaded_range}
use Rattle.scx_abs.specs.declared.kinds.Kind.{Kind}
use Rattle.scx_abs.specs.declared.kinds.Kind.TheVariants as kind
use Rattle.scx_abs.specs.declared.kinds.Kind.TheVariants.{Unusable, Num, Elem, Task}
use Rattle.scx_abs.specs.declared.kinds.Cell.{Cell}
use Rattle.scx_abs.specs.declared.kinds.Cell.TheVariants.{Bytes, Pointer}
use Rattle.scx_abs.specs.declared.states.AbsState.{AbsState}
use Rattle.scx_abs.specs.declared.memory.Area.{Area}
use Rattle.scx_abs.specs.declared.memory.Area.TheVariants.{OnStack, InElement, InTask}
use Rattle.scx_abs.specs.Kinds.{CoversKind}
use Rattle.scx_abs.specs.Cells.{is_written, no_bytes, with_bytes, all_written, written_in, IsPartOf, CoversCell}
use Rattle.scx_abs.specs.States.{CoversState, IsProper, kind_at, cell_at, with_cell}
use Rattle.scx_abs.specs.Areas.{IsAlignedWithin, IsAlignedOnStack}
use Rattle.scx_isa_semantics.specs.Results.{◌>>=◌}
use Rattle.scx_abs.specs.Checks.{goes_on, usable, operand_kind, element_size, offset_for, offsets_for}
use Rattle.scx_abs.specs.Rules.{field_area, area_of, loaded_kind, kind_in, load_kind, stored_cell, number_stored, stored_in, store_rule}
use Rattle.scx_abs.specs.Monotone.{PassesToo, CoversFlows}
use Rattle.scx_abs.proofs.Orders.{kind_itself, each_byte_at, none_written}
use Rattle.scx_abs.proofs.Elements.{offset_cases}
use Rattle.scx_abs.proofs.Bytes.{fits_cell}
use Rattle.scx_abs.proofs.MonotoneRegisters.{passes_then, with_cell_covers, on_monotone, CoversUsable, operand_monotone}
use Rattle.scx_abs.proofs.MonotoneRegisters as registers

-- ---- offsets

-- one offset, with so many bytes from it on
abbrev pub SamePlace : ℕ → ℕ → ℕ → ℕ → Type 0
SamePlace size n x y = (x ≡ y) × IsAlignedWithin size n y

abbrev SameArea : ℕ → Area → Area → Type 0
SameArea n x y = (x ≡ y) × IsAlignedOnStack n y

-- an offset for an access, which lies within and is aligned
pub offset_monotone : (size n : ℕ) (t : Option ℕ) → PassesToo (SamePlace size n) (offset_for size n t) (offset_for size n t)
offset_monotone size n t =
    offset_cases size n t (λ r o. PassesToo (SamePlace size n) r r) (λ why o. tt) (λ at inside aligned. (refl, record { inside = inside; aligned = aligned }))

stack_monotone : (n : ℕ) (t : Option ℕ) → PassesToo (SameArea n) (offset_for stack_size n t >>= λ at. Ok (OnStack at)) (offset_for stack_size n t >>= λ at. Ok (OnStack at))
stack_monotone n t =
    passes_then (SamePlace stack_size n) (SameArea n) (offset_for stack_size n t) (offset_for stack_size n t) (λ at. Ok (OnStack at)) (λ at. Ok (OnStack at)) (offset_monotone stack_size n t)
    (λ x y h. (ap OnStack h.0, h.1))

-- a check that gives nothing
abbrev pub NoMore : Unit {0} → Unit {0} → Type 0
NoMore x y = Unit {0}

-- what passes for offsets in an element passes for those that they cover
pub offsets_monotone : (size : ℕ) (s : Size) (c r : Range) (k : ℤ) → IsWellFormed c → IsWellFormed r → CoversRange c r
    → PassesToo NoMore (offsets_for size (size_bytes s) c k) (offsets_for size (size_bytes s) r k)
offsets_monotone size s c r k p q h = go (are_inside size (size_bytes s) c k) (are_aligned (size_bytes s) c k) refl refl
  where
    passes : are_inside size (size_bytes s) c k ≡ true → are_aligned (size_bytes s) c k ≡ true → PassesToo NoMore (Ok tt) (offsets_for size (size_bytes s) r k)
    passes d e =
        let both = accesses_are_monotone size s c r k p q h in
        subst (λ x. PassesToo NoMore (Ok tt) (if x then if are_aligned (size_bytes s) r k then Ok tt else Err Misaligned else Err OutOfBounds)) (sym (both.0 d))
        (subst (λ y. PassesToo NoMore (Ok tt) (if y then Ok tt else Err Misaligned)) (sym (both.1 e)) tt)

    go : (x y : Bool) → are_inside size (size_bytes s) c k ≡ x → are_aligned (size_bytes s) c k ≡ y
        → PassesToo NoMore (if x then if y then Ok tt else Err Misaligned else Err OutOfBounds) (offsets_for size (size_bytes s) r k)
    go true true d e = passes d e
    go true false d e = tt
    go false y d e = tt

element_monotone : (size : ℕ) (s : Size) (c r : Range) (k : ℤ) → IsWellFormed c → IsWellFormed r → CoversRange c r
    → PassesToo (SameArea (size_bytes s)) (offsets_for size (size_bytes s) c k >>= λ fine. Ok InElement) (offsets_for size (size_bytes s) r k >>= λ fine. Ok InElement)
element_monotone size s c r k p q h =
    passes_then NoMore (SameArea (size_bytes s)) (offsets_for size (size_bytes s) c k) (offsets_for size (size_bytes s) r k) (λ fine. Ok InElement) (λ fine. Ok InElement) (offsets_monotone size s c r k p q h)
    (λ x y g. (refl, tt))

field_monotone : (n : ℕ) (f : Option Field) → PassesToo (SameArea n) (field_area f) (field_area f)
field_monotone n None = tt
field_monotone n (Some f) = (refl, tt)

area_monotone : (shapes : List Shape) (j k : Kind) (offset : ℤ) (s : Size) → CoversUsable j k → PassesToo (SameArea (size_bytes s)) (area_of shapes j offset (size_bytes s)) (area_of shapes k offset (size_bytes s))
area_monotone shapes (kind.Stack o) (kind.Stack p) offset s h = rw h.1 (stack_monotone (size_bytes s) (at_distance p offset))
area_monotone shapes (kind.Stack o) k offset s h = absurd h.1
area_monotone shapes (Elem m c) (Elem q r) offset s h = rw h.1.0 (element_monotone (element_size shapes q) s c r offset h.2 h.3 h.1.1)
area_monotone shapes (Elem m c) k offset s h = absurd h.1
area_monotone shapes Task Task offset s h = field_monotone (size_bytes s) (field_at (size_bytes s) (at_distance 0 offset))
area_monotone shapes Task k offset s h = absurd h.1
area_monotone shapes j k offset s h = tt

-- ---- loads

size-positive : (s : Size) → 1 ≤ size_bytes s
size-positive size.Byte = omega arith
size-positive size.HalfWord = omega arith
size-positive size.Word = omega arith
size-positive size.DoubleWord = omega arith

all_part : (b a : List Bool) (j n : ℕ) → j + n ≤ 8 → IsPartOf b a → all_written b j n ≡ true → all_written a j n ≡ true
all_part b a j zero le h e = refl
all_part b a j (suc n) le h e =
    let parts = and_parts (is_written b j) (all_written b (j + 1) n) e in
    and_from (is_written a j) (all_written a (j + 1) n) (h j (omega (arith, le)) parts.0) (all_part b a (j + 1) n (omega (arith, le)) h parts.1)

none_part : (b : List Bool) (j n : ℕ) → j + n ≤ 8 → 1 ≤ n → IsPartOf b no_bytes → all_written b j n ≡ true → ⊥
none_part b j zero le some h e = omega (arith, some)
none_part b j (suc n) le some h e =
    let lt : j < 8 = omega (arith, le) in
    none_written j lt (h j lt ((and_parts (is_written b j) (all_written b (j + 1) n) e).0))

-- bytes that are all written in the one are in the other
pub read_monotone : {A : Type 0} (R : A → A → Type 0) (x : A) (b a : List Bool) (j n : ℕ) → R x x → j + n ≤ 8 → IsPartOf b a
    → PassesToo R (if all_written b j n then Ok x else Err UnwrittenStack) (if all_written a j n then Ok x else Err UnwrittenStack)
read_monotone R x b a j n same le h = go (all_written b j n) refl
  where
    go : (t : Bool) → all_written b j n ≡ t → PassesToo R (if t then Ok x else Err UnwrittenStack) (if all_written a j n then Ok x else Err UnwrittenStack)
    go true e = rw (all_part b a j n le h e) same
    go false e = tt

read_nothing : (k : Kind) (b : List Bool) (j n : ℕ) (r : Result Kind Why) → j + n ≤ 8 → 1 ≤ n → IsPartOf b no_bytes → PassesToo CoversKind (if all_written b j n then Ok k else Err UnwrittenStack) r
read_nothing k b j n r le some h = go (all_written b j n) refl
  where
    go : (t : Bool) → all_written b j n ≡ t → PassesToo CoversKind (if t then Ok k else Err UnwrittenStack) r
    go true e = absurd (none_part b j n le some h e)
    go false e = tt

loaded_monotone : (x y : Cell) (a : Access) (j : ℕ) → j + size_bytes (access_size a) ≤ 8 → CoversCell x y → PassesToo CoversKind (loaded_kind x a j) (loaded_kind y a j)
loaded_monotone (Bytes s) (Bytes t) a j le h = read_monotone CoversKind (Num (loaded_range a)) s t j (size_bytes (access_size a)) (kind_itself (Num (loaded_range a))) le h
loaded_monotone (Bytes s) (Pointer k) a j le h = read_nothing (Num (loaded_range a)) s j (size_bytes (access_size a)) (loaded_kind (Pointer k) a j) le (size-positive (access_size a)) h
loaded_monotone (Pointer k) (Bytes t) a j le h = absurd h
loaded_monotone (Pointer k) (Pointer l) access.DoubleWord j le h = h
loaded_monotone (Pointer k) (Pointer l) a j le h = tt

kind_in_monotone : (by : Rules) (b a : AbsState) (access : Access) (x y : Area) → CoversState b a → SameArea (size_bytes (access_size access)) x y → PassesToo CoversKind (kind_in by b access x) (kind_in by a access y)
kind_in_monotone by b a access x (OnStack at) h g =
    rw g.0 (loaded_monotone (cell_at b (at / 8)) (cell_at a (at / 8)) access (at % 8) (fits_cell (access_size access) at g.1.aligned) (h.cells (at / 8)))
kind_in_monotone by b a access x InElement h g = rw g.0 (kind_itself (Num (loaded_range access)))
kind_in_monotone by b a access x (InTask f) h g =
    rw g.0 (elim (is_plain access && is_known_field f by) as (λ t. PassesToo CoversKind (if t then Ok (Num (loaded_range access)) else Err TaskField) (if t then Ok (Num (loaded_range access)) else Err TaskField))
    [ true ↦ kind_itself (Num (loaded_range access)) | false ↦ tt ])

-- loads
pub load_monotone : (c : Context) (b a : AbsState) (access : Access) (r : Register) (offset : ℤ) → IsProper b → IsProper a → CoversState b a
    → PassesToo CoversKind (load_kind c b access r offset) (load_kind c a access r offset)
load_monotone c b a access r offset q p h =
    let n = size_bytes (access_size access) in
    passes_then CoversUsable CoversKind (usable (kind_at b (number r))) (usable (kind_at a (number r)))
    (λ j. area_of c.defs j offset n >>= λ x. kind_in c.rules b access x) (λ j. area_of c.defs j offset n >>= λ x. kind_in c.rules a access x)
    (registers.read_monotone b a r q p h)
    (λ j k g. passes_then (SameArea n) CoversKind (area_of c.defs j offset n) (area_of c.defs k offset n) (λ x. kind_in c.rules b access x) (λ x. kind_in c.rules a access x)
    (area_monotone c.defs j k offset (access_size access) g) (λ x y f. kind_in_monotone c.rules b a access x y h f))

-- ---- stores

-- of a cell that covers another no more bytes are known
pub written_covers : (x y : Cell) → CoversCell x y → IsPartOf (written_in x) (written_in y)
written_covers (Bytes s) (Bytes t) h = h
written_covers (Bytes s) (Pointer k) h = h
written_covers (Pointer j) (Pointer k) h = λ i lt w. w
written_covers (Pointer j) (Bytes t) h = absurd h

-- of the bytes that are known with more of them as well
pub marked_part : (b a : List Bool) (j n : ℕ) → IsPartOf b a → IsPartOf (with_bytes b j n) (with_bytes a j n)
marked_part b a j n h i lt w =
    let old : (is_written b i || (nat_le j i && nat_lt i (j + n))) ≡ true = sym (each_byte_at (λ i. is_written b i || (nat_le j i && nat_lt i (j + n))) i lt) ∙ w in
    each_byte_at (λ i. is_written a i || (nat_le j i && nat_lt i (j + n))) i lt ∙ go (or_cases (is_written b i) (nat_le j i && nat_lt i (j + n)) old)
  where
    go : (is_written b i ≡ true) ⊎ ((nat_le j i && nat_lt i (j + n)) ≡ true) → (is_written a i || (nat_le j i && nat_lt i (j + n))) ≡ true
    go (inl e) = rw (h i lt e) refl
    go (inr e) = or_right (is_written a i) (nat_le j i && nat_lt i (j + n)) e

stored_cell_monotone : (x y : Cell) (s : Size) (i : ℕ) (j k : Kind) → CoversCell x y → CoversUsable j k → PassesToo CoversCell (stored_cell x s i j) (stored_cell y s i k)
stored_cell_monotone x y s i (Num u) (Num v) h g = marked_part (written_in x) (written_in y) i (size_bytes s) (written_covers x y h)
stored_cell_monotone x y s i (Num u) k h g = absurd g.1
stored_cell_monotone x y size.DoubleWord i Unusable k h g = absurd g.0
stored_cell_monotone x y size.DoubleWord i j (Num u) h g = absurd g.1
stored_cell_monotone x y size.DoubleWord i j k h g = g.1
stored_cell_monotone x y s i j k h g = tt

number_stored_monotone : (b a : AbsState) (j k : Kind) → CoversState b a → CoversKind j k → PassesToo CoversFlows (number_stored b j) (number_stored a k)
number_stored_monotone b a (Num u) (Num v) h g = on_monotone b a h
number_stored_monotone b a (Num u) k h g = absurd g
number_stored_monotone b a j k h g = tt

cell-below : (s : Size) (at : ℕ) → IsAlignedWithin stack_size (size_bytes s) at → at / 8 < 64
cell-below s at p = let some = size-positive s in let room = p.inside in omega (arith, some, room)

stored_monotone : (b a : AbsState) (s : Size) (j k : Kind) (x y : Area) → IsProper a → CoversState b a → CoversUsable j k → SameArea (size_bytes s) x y
    → PassesToo CoversFlows (stored_in b s j x) (stored_in a s k y)
stored_monotone b a s j k x (OnStack at) p h g f =
    rw f.0 (passes_then CoversCell CoversFlows (stored_cell (cell_at b (at / 8)) s (at % 8) j) (stored_cell (cell_at a (at / 8)) s (at % 8) k)
    (λ c. goes_on (with_cell b (at / 8) c)) (λ c. goes_on (with_cell a (at / 8) c))
    (stored_cell_monotone (cell_at b (at / 8)) (cell_at a (at / 8)) s (at % 8) j k (h.cells (at / 8)) g)
    (λ c d e. on_monotone (with_cell b (at / 8) c) (with_cell a (at / 8) d) (with_cell_covers b a (at / 8) c d (cell-below s at f.1) p h e)))
stored_monotone b a s j k x InElement p h g f = rw f.0 (number_stored_monotone b a j k h g.1)
stored_monotone b a s j k x (InTask t) p h g f =
    rw f.0 (elim (is_writable t) as (λ v. PassesToo CoversFlows (if v then number_stored b j else Err TaskField) (if v then number_stored a k else Err TaskField))
    [ true ↦ number_stored_monotone b a j k h g.1 | false ↦ tt ])

-- stores
pub store_monotone : (shapes : List Shape) (b a : AbsState) (s : Size) (r : Register) (offset : ℤ) (x : Operand) → IsOperand x → IsProper b → IsProper a → CoversState b a
    → PassesToo CoversFlows (store_rule shapes b s r offset x) (store_rule shapes a s r offset x)
store_monotone shapes b a s r offset x fits q p h =
    let n = size_bytes s in
    passes_then CoversUsable CoversFlows (usable (kind_at b (number r))) (usable (kind_at a (number r)))
    (λ j. operand_kind b Bits64 x >>= λ k. area_of shapes j offset n >>= λ t. stored_in b s k t) (λ j. operand_kind a Bits64 x >>= λ k. area_of shapes j offset n >>= λ t. stored_in a s k t)
    (registers.read_monotone b a r q p h)
    (λ j k g. passes_then CoversUsable CoversFlows (operand_kind b Bits64 x) (operand_kind a Bits64 x)
    (λ l. area_of shapes j offset n >>= λ t. stored_in b s l t) (λ l. area_of shapes k offset n >>= λ t. stored_in a s l t) (operand_monotone b a Bits64 x fits q p h)
    (λ l m f. passes_then (SameArea n) CoversFlows (area_of shapes j offset n) (area_of shapes k offset n) (λ t. stored_in b s l t) (λ t. stored_in a s m t)
    (area_monotone shapes j k offset s g) (λ t u e. stored_monotone b a s l m t u p h f e)))
