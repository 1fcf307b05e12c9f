-- Bytes of the stack, read and written: what a load reads of bytes that were written, what a store
-- leaves of the others, and that what is stored is read back.
use Rattle.std.proofs.Common.{◌≡◌, ℕ, zero, suc, ◌+◌, ◌*◌, ◌/◌, ◌%◌, ◌^◌, ◌<◌, ◌≤◌, Bool, true, false, ◌&&◌, ◌||◌, nat_eq, nat_le, nat_lt, List, [], ◌∷◌, length, drop, slice_index, Option, Some, option_map, if◌then◌else◌, ◌⊎◌, inl, inr, refl, sym, ap, ◌∙◌, arith}
use Rattle.std.proofs.lemmas.Bool.{eqb-false, eq-eqb, ne_eqb, and_parts, or_cases, leb-true, ltb-true}
use Rattle.std.proofs.lemmas.List.Elements.{All-drop}
use Rattle.scx_isa_semantics.specs.declared.values.Value.{Value}
use Rattle.scx_isa_semantics.specs.declared.values.Value.TheVariants as value
use Rattle.scx_isa_semantics.specs.declared.values.Pointer as pointers
use Rattle.scx_isa_semantics.specs.declared.values.Pointer.TheVariants as pointer
use Rattle.scx_isa_semantics.specs.declared.values.StackByte.{StackByte}
use Rattle.scx_isa_semantics.specs.declared.values.StackByte.TheVariants as byte
use Rattle.scx_isa_semantics.specs.declared.operations.Size.{Size}
use Rattle.scx_isa_semantics.specs.declared.operations.Size.TheVariants as size
use Rattle.scx_isa_semantics.specs.declared.operations.Access.TheVariants as access
use Rattle.byteorder.specs.Endian.{little_from}
use Rattle.scx_isa_semantics.specs.Elements.{Maps, AreBytes, number_at}
use Rattle.scx_isa_semantics.specs.Memory.{Stack, bytes_at, write, number_bytes, number_in, pointer_in, same_pointer, parts, value_in, number_or_pointer, value_bytes, size_bytes}
use Rattle.scx_isa_semantics.proofs.Bytes.{IsSmall, bytes_at_small, number_in_below}
use Rattle.scx_abs.specs.declared.kinds.Kind.{Kind}
use Rattle.scx_abs.specs.declared.kinds.Held.{Held}
use Rattle.scx_abs.specs.declared.kinds.Held.TheVariants as held
use Rattle.scx_abs.specs.declared.kinds.Cell.{Cell}
use Rattle.scx_abs.specs.declared.kinds.Cell.TheVariants.{Bytes, Pointer}
use Rattle.scx_abs.specs.Cells.{kind_of, is_written, with_bytes, all_written, written_in}
use Rattle.scx_abs.specs.Stands.{Stands, IsByte, CellStands}
use Rattle.scx_abs.proofs.Orders.{each_byte_at, none_written}

-- ---- reading

one_more : (b : StackByte) (rest : List StackByte) (x : ℕ) → IsByte b → number_in rest ≡ Some x → (y : ℕ) × (number_in (b ∷ rest) ≡ Some y)
one_more (byte.Byte b) rest x h e = (b + 256 * x, ap (option_map (λ n. b + 256 * n)) e)
one_more byte.Unwritten rest x h e = absurd h
one_more (byte.Part p j) rest x h e = absurd h

-- bytes that numbers were written to hold a number
pub bytes_read : (stack : Stack) (at n : ℕ) → ((i : ℕ) → i < n → IsByte (stack (at + i))) → (x : ℕ) × (number_in (bytes_at stack at n) ≡ Some x)
bytes_read stack at zero h = (0, refl)
bytes_read stack at (suc n) h =
    let here : at + 0 ≡ at = omega arith in
    let rest = bytes_read stack (at + 1) n (λ i lt. let on : at + 1 + i ≡ at + suc i = omega arith in rw on (h (suc i) (omega arith))) in
    one_more (stack at) (bytes_at stack (at + 1) n) rest.0 (rw here at (h 0 (omega arith))) rest.1

-- a byte that holds a number is small
pub byte_small : (b : StackByte) → IsByte b → IsSmall b
byte_small (byte.Byte b) h = h
byte_small byte.Unwritten h = absurd h
byte_small (byte.Part p j) h = absurd h

length-bytes_at : (stack : Stack) (at n : ℕ) → length (bytes_at stack at n) ≡ n
length-bytes_at stack at zero = refl
length-bytes_at stack at (suc n) = ap suc (length-bytes_at stack (at + 1) n)

-- the number that so many bytes hold
pub read_below : (stack : Stack) (at n x : ℕ) → ((i : ℕ) → i < n → IsByte (stack (at + i))) → number_in (bytes_at stack at n) ≡ Some x → x < 256 ^ n
read_below stack at n x h e = rw (length-bytes_at stack at n) at (number_in_below (bytes_at stack at n) x (bytes_at_small stack at n (λ i lt. byte_small (stack (at + i)) (h i lt))) e)

index_below : (bytes : List ℕ) (i : ℕ) → AreBytes bytes → slice_index bytes i < 256
index_below [] i h = omega arith
index_below (b ∷ bytes) zero h = h 0 b (omega arith)
index_below (b ∷ bytes) (suc i) h = index_below bytes i (λ k d lt. h (suc k) d (omega arith))

little_below : (i n : ℕ) (bytes : List ℕ) → AreBytes bytes → little_from i n bytes < 256 ^ n
little_below i zero bytes h = omega arith
little_below i (suc n) bytes h = let rest = little_below (suc i) n bytes h in let this = index_below bytes i h in omega arith

-- the number that so many bytes of an element hold
pub element_below : (bytes : List ℕ) (at n : ℕ) → AreBytes bytes → number_at bytes at n < 256 ^ n
element_below bytes at n h = little_below 0 n (drop at bytes) (All-drop (λ b. b < 256) at bytes h)

-- of bytes that are all known to be written each one is
pub written_at : (set : List Bool) (j n i : ℕ) → all_written set j n ≡ true → i < n → is_written set (j + i) ≡ true
written_at set j zero i e lt = absurd (omega arith)
written_at set j (suc n) zero e lt =
    let here : j + 0 ≡ j = omega arith in
    rw here ((and_parts (is_written set j) (all_written set (j + 1) n) e).0)
written_at set j (suc n) (suc i) e lt =
    let on : j + suc i ≡ j + 1 + i = omega arith in
    rw on (written_at set (j + 1) n i ((and_parts (is_written set j) (all_written set (j + 1) n) e).1) (omega arith))

-- ---- writing

-- what is written doesn't change the other bytes
pub write_apart : (stack : Stack) (at : ℕ) (bytes : List StackByte) (k : ℕ) → ((i : ℕ) → i < length bytes → k ≡ at + i → ⊥) → write stack at bytes k ≡ stack k
write_apart stack at [] k h = refl
write_apart stack at (b ∷ bytes) k h =
    let other : nat_eq k at ≡ false = ne_eqb k at (λ e. h 0 (omega arith) (omega arith)) in
    rw other (write_apart stack (at + 1) bytes k (λ i lt e. h (suc i) (omega arith) (omega arith)))

-- the bytes of a number are written over with numbers, and those that held numbers still do
pub number_written : (stack : Stack) (at n x k : ℕ) → (IsByte (stack k) ⊎ ((at ≤ k) × (k < at + n))) → IsByte (write stack at (number_bytes n x) k)
number_written stack at zero x k (inl h) = h
number_written stack at zero x k (inr h) = absurd (omega (arith, h.0, h.1))
number_written stack at (suc n) x k h = go (nat_eq k at) refl (number_written stack (at + 1) n (x / 256) k)
  where
    rest : IsByte (stack k) ⊎ ((at ≤ k) × (k < at + suc n)) → (k ≡ at → ⊥) → IsByte (stack k) ⊎ ((at + 1 ≤ k) × (k < at + 1 + n))
    rest (inl b) u = inl b
    rest (inr b) u = inr (omega (arith, b.0, b.1, u), omega (arith, b.0, b.1))

    go : (b : Bool) → nat_eq k at ≡ b → (IsByte (stack k) ⊎ ((at + 1 ≤ k) × (k < at + 1 + n)) → IsByte (write stack (at + 1) (number_bytes n (x / 256)) k))
        → IsByte (if b then byte.Byte (x % 256) else write stack (at + 1) (number_bytes n (x / 256)) k)
    go true e later = omega arith
    go false e later = later (rest h (eqb-false k at e))

-- two stacks that agree on some bytes
pub same_bytes : (stack other : Stack) (at n : ℕ) → ((i : ℕ) → i < n → stack (at + i) ≡ other (at + i)) → bytes_at stack at n ≡ bytes_at other at n
same_bytes stack other at zero h = refl
same_bytes stack other at (suc n) h =
    let here : at + 0 ≡ at = omega arith in
    let first : stack at ≡ other at = rw here at (h 0 (omega arith)) in
    let rest = same_bytes stack other (at + 1) n (λ i lt. let on : at + 1 + i ≡ at + suc i = omega arith in rw on (h (suc i) (omega arith))) in
    ap (λ b. b ∷ bytes_at stack (at + 1) n) first ∙ ap (λ l. other at ∷ l) rest

-- what is written is read back
pub bytes_back : (stack : Stack) (at : ℕ) (bytes : List StackByte) → bytes_at (write stack at bytes) at (length bytes) ≡ bytes
bytes_back stack at [] = refl
bytes_back stack at (b ∷ bytes) =
    let here : nat_eq at at ≡ true = eq-eqb at at refl in
    let first : write stack at (b ∷ bytes) at ≡ b = rw here refl in
    let behind : bytes_at (write stack at (b ∷ bytes)) (at + 1) (length bytes) ≡ bytes_at (write stack (at + 1) bytes) (at + 1) (length bytes) =
    same_bytes (write stack at (b ∷ bytes)) (write stack (at + 1) bytes) (at + 1) (length bytes)
    (λ i lt. let other : nat_eq (at + 1 + i) at ≡ false = ne_eqb (at + 1 + i) at (λ e. omega arith) in rw other refl) in
    ap (λ f. f ∷ bytes_at (write stack at (b ∷ bytes)) (at + 1) (length bytes)) first
    ∙ ap (λ l. b ∷ l) (behind ∙ bytes_back stack (at + 1) bytes)

-- ---- values

-- a pointer is the same as itself
pub same_pointer-refl : (p : pointers.Pointer) → same_pointer p p ≡ true
same_pointer-refl (pointer.Stack o) = eq-eqb o o refl
same_pointer-refl (pointer.Task t) = eq-eqb t.0 t.0 refl
same_pointer-refl (pointer.Map m) = eq-eqb m m refl
same_pointer-refl (pointer.Element m i o) = rw (eq-eqb m m refl, eq-eqb o o refl, eq-eqb i i refl) refl

parts_read : (p : pointers.Pointer) → value_in access.DoubleWord (parts p) ≡ Some (value.Pointer p)
parts_read p = rw (same_pointer-refl p) refl

-- the bytes of a number hold a number, and those of 0 hold 0
number_read : (k n : ℕ) → (x : ℕ) × (number_in (number_bytes k n) ≡ Some x) × (n ≡ 0 → x ≡ 0)
number_read zero n = (0, refl, λ e. refl)
number_read (suc k) n =
    let rest = number_read k (n / 256) in
    (n % 256 + 256 * rest.0, ap (option_map (λ m. n % 256 + 256 * m)) rest.1, λ e. let none = rest.2 (omega arith) in omega arith)

-- a stored pointer that is a number may be another one, if that is 0 where the first is
number_stands : (maps : Maps) (k : Held) (n x : ℕ) → Stands maps (kind_of k) (value.Number n) → (n ≡ 0 → x ≡ 0) → Stands maps (kind_of k) (value.Number x)
number_stands maps (held.ElemOrNull m) n x h z = z h
number_stands maps held.TaskOrNull n x h z = z h
number_stands maps k n x h z = absurd h

-- a value that a kind stands for
pub record Read (maps : Maps) (k : Kind) (o : Option Value) : Type 0 where
  pub value : Value
  pub is : o ≡ Some value
  pub stands : Stands maps k value

-- the bytes of a value that was stored whole load as it
pub reads_back : (maps : Maps) (k : Held) (v : Value) → Stands maps (kind_of k) v → (bytes : List StackByte) → value_bytes size.DoubleWord v ≡ Some bytes → Read maps (kind_of k) (value_in access.DoubleWord bytes)
reads_back maps k (value.Number n) h bytes e =
    let number : number_bytes 8 n ≡ bytes = cc in
    let read = number_read 8 n in
    record {
      value = value.Number read.0;
      is = rw (← number) (ap (λ o. number_or_pointer access.DoubleWord o (pointer_in (number_bytes 8 n))) read.1);
      stands = number_stands maps k n read.0 h read.2;
    }
reads_back maps k (value.Pointer p) h bytes e =
    let pointer : parts p ≡ bytes = cc in
    record { value = value.Pointer p; is = rw (← pointer) (parts_read p); stands = h }
reads_back maps k value.Unset h bytes e = absurd (cc)

-- a number is stored in as many bytes as were asked for
pub length-number_bytes : (k n : ℕ) → length (number_bytes k n) ≡ k
length-number_bytes zero n = refl
length-number_bytes (suc k) n = ap suc (length-number_bytes k (n / 256))

-- a stored value takes so many bytes
pub length-value_bytes : (s : Size) (v : Value) (bytes : List StackByte) → value_bytes s v ≡ Some bytes → length bytes ≡ size_bytes s
length-value_bytes s (value.Number n) bytes e =
    let number : number_bytes (size_bytes s) n ≡ bytes = cc in
    ap length (sym number) ∙ length-number_bytes (size_bytes s) n
length-value_bytes size.DoubleWord (value.Pointer p) bytes e =
    let pointer : parts p ≡ bytes = cc in
    ap length (sym pointer)
length-value_bytes size.Byte (value.Pointer p) bytes e = absurd (cc)
length-value_bytes size.HalfWord (value.Pointer p) bytes e = absurd (cc)
length-value_bytes size.Word (value.Pointer p) bytes e = absurd (cc)
length-value_bytes s value.Unset bytes e = absurd (cc)

-- ---- cells

-- a store leaves the other cells as they were
pub cell_apart : (maps : Maps) (cell : Cell) (stack : Stack) (at : ℕ) (bytes : List StackByte) (c : ℕ) → (c ≡ at / 8 → ⊥) → at % 8 + length bytes ≤ 8
    → CellStands maps cell stack (8 * c) → CellStands maps cell (write stack at bytes) (8 * c)
cell_apart maps (Bytes set) stack at bytes c other fits h = λ j lt w.
    rw (write_apart stack at bytes (8 * c + j) (λ i short e. other (omega arith))) (h j lt w)
cell_apart maps (Pointer k) stack at bytes c other fits h =
    (h.0, h.1, h.2 ∙ ap Some (sym (same_bytes (write stack at bytes) stack (8 * c) 8 (λ j lt. write_apart stack at bytes (8 * c + j) (λ i short e. other (omega arith))))))

-- a number adds its bytes to those of its cell
pub number_stored : (maps : Maps) (cell : Cell) (stack : Stack) (at c j n x : ℕ) → at ≡ 8 * c + j → CellStands maps cell stack (8 * c)
    → CellStands maps (Bytes (with_bytes (written_in cell) j n)) (write stack at (number_bytes n x)) (8 * c)
number_stored maps cell stack at c j n x e h i lt w =
    number_written stack at n x (8 * c + i) (which cell h (or_cases (is_written (written_in cell) i) (nat_le j i && nat_lt i (j + n)) (sym (each_byte_at (λ k. is_written (written_in cell) k || (nat_le j k && nat_lt k (j + n))) i lt) ∙ w)))
  where
    which : (d : Cell) → CellStands maps d stack (8 * c) → (is_written (written_in d) i ≡ true) ⊎ ((nat_le j i && nat_lt i (j + n)) ≡ true)
        → IsByte (stack (8 * c + i)) ⊎ ((at ≤ 8 * c + i) × (8 * c + i < at + n))
    which (Bytes set) g (inl b) = inl (g i lt b)
    which (Pointer k) g (inl b) = absurd (none_written i lt b)
    which d g (inr b) =
        let tests = and_parts (nat_le j i) (nat_lt i (j + n)) b in
        let low = leb-true j i tests.0 in
        let high = ltb-true i (j + n) tests.1 in
        inr (omega arith, omega arith)

-- a pointer takes its cell
pub pointer_stored : (maps : Maps) (k : Held) (v : Value) (stack : Stack) (at c : ℕ) (bytes : List StackByte) → at ≡ 8 * c → Stands maps (kind_of k) v → value_bytes size.DoubleWord v ≡ Some bytes
    → CellStands maps (Pointer k) (write stack at bytes) (8 * c)
pointer_stored maps k v stack at c bytes e h b =
    let long : length bytes ≡ 8 = length-value_bytes size.DoubleWord v bytes b in
    let back : bytes_at (write stack at bytes) (8 * c) 8 ≡ bytes = ap (λ i. bytes_at (write stack at bytes) i 8) (sym e) ∙ ap (bytes_at (write stack at bytes) at) (sym long) ∙ bytes_back stack at bytes in
    (v, h, b ∙ ap Some (sym back))

-- an access of a multiple of its bytes lies in one cell
pub fits_cell : (s : Size) (at : ℕ) → at % size_bytes s ≡ 0 → at % 8 + size_bytes s ≤ 8
fits_cell size.Byte at e = omega arith
fits_cell size.HalfWord at e = omega arith
fits_cell size.Word at e = omega arith
fits_cell size.DoubleWord at e = omega arith
