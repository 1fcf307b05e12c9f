-- Bytes that a helper writes: on the stack they are numbers afterwards, in an element they change nothing
-- that is known.
use Rattle.std.proofs.Common.{◌≡◌, ℕ, suc, ◌+◌, ◌/◌, ◌%◌, ◌<◌, ◌≤◌, Bool, true, false, nat_eq, List, [], ◌∷◌, length, map, Some, Ok, if◌then◌else◌, refl, subst, arith}
use Rattle.std.proofs.lemmas.Bool.{eqb-true}
use Rattle.scx_isa_semantics.specs.declared.operations.Size.TheVariants as sizes
use Rattle.scx_isa_semantics.specs.declared.values.Value.{Value}
use Rattle.scx_isa_semantics.specs.declared.values.Value.TheVariants as value
use Rattle.scx_isa_semantics.specs.declared.values.Pointer.TheVariants as pointer
use Rattle.scx_isa_semantics.specs.declared.values.StackByte.{StackByte}
use Rattle.scx_isa_semantics.specs.declared.values.StackByte.TheVariants.{Byte}
use Rattle.scx_isa_semantics.specs.Memory.{Stack, stack_size, write}
use Rattle.scx_isa_semantics.specs.Elements.{AreBytes, element, with_element}
use Rattle.scx_isa_semantics.specs.Locations.{on_stack, in_element}
use Rattle.scx_isa_semantics.specs.Machine.{Machine, with_stack}
use Rattle.scx_isa_semantics.specs.Calls.{region, is_room, over}
use Rattle.scx_isa_semantics.specs.Calls as meaning
use Rattle.scx_isa_semantics.proofs.Bytes.{with_element_bytes}
use Rattle.scx_maps.specs.declared.shape.Shape.{Shape}
use Rattle.scx_maps.proofs.Shaped.{lengths_of-with_value}
use Rattle.scx_vm.proofs.OnMaps.{fitting_cases}
use Rattle.scx_vm.proofs.Written.{length-over, over_bytes}
use Rattle.scx_abs.specs.declared.kinds.Kind.{Kind}
use Rattle.scx_abs.specs.declared.kinds.Kind.TheVariants as kind
use Rattle.scx_abs.specs.declared.kinds.Kind.TheVariants.{Elem}
use Rattle.scx_abs.specs.declared.kinds.Cell.TheVariants.{Bytes}
use Rattle.scx_abs.specs.declared.states.AbsState.{AbsState}
use Rattle.scx_abs.specs.Cells.{with_bytes, written_in}
use Rattle.scx_abs.specs.States.{cell_at, with_cell}
use Rattle.scx_abs.specs.Stands.{HasElement, Stands, IsMember}
use Rattle.scx_abs.specs.Calls.{room_check, with_written, filled}
use Rattle.scx_abs.proofs.Accesses.{after_number}
use Rattle.scx_abs.proofs.Elements.{map_there, maps_member}

-- ---- several bytes are written one by one

-- a stack with a byte
abbrev with_byte : Stack → ℕ → StackByte → Stack
with_byte stack at b = write stack at (b ∷ [])

swapped : (stack : Stack) (at n k : ℕ) (b c : StackByte) (x y : StackByte) → at < n → x ≡ (if nat_eq k at then b else y) → (if nat_eq k n then c else x) ≡ (if nat_eq k at then b else (if nat_eq k n then c else y))
swapped stack at n k b c x y h e = go (nat_eq k n) refl (nat_eq k at) refl e
  where
    go : (p : Bool) → nat_eq k n ≡ p → (q : Bool) → nat_eq k at ≡ q → x ≡ (if q then b else y) → (if p then c else x) ≡ (if q then b else (if p then c else y))
    go true s true t f =
        let same : k ≡ n = eqb-true k n s in
        let other : k ≡ at = eqb-true k at t in
        absurd (omega (arith, same, other, h))
    go true s false t f = refl
    go false s true t f = f
    go false s false t f = f

write_later : (stack : Stack) (at n k : ℕ) (b : StackByte) (bs : List StackByte) → at < n → write (with_byte stack at b) n bs k ≡ (if nat_eq k at then b else write stack n bs k)
write_later stack at n k b [] h = refl
write_later stack at n k b (c ∷ bs) h =
    swapped stack at n k b c (write (with_byte stack at b) (n + 1) bs k) (write stack (n + 1) bs k) h (write_later stack at (n + 1) k b bs (omega (arith, h)))

write_cons : (stack : Stack) (at : ℕ) (b : StackByte) (bs : List StackByte) → write (with_byte stack at b) (at + 1) bs ≡ write stack at (b ∷ bs)
write_cons stack at b bs = λ i k. write_later stack at (at + 1) k b bs (omega arith) i

one_filled : (shapes : List Shape) (a : AbsState) (m : Machine) (at b : ℕ) → IsMember shapes a m → b < 256
    → IsMember shapes (with_cell a (at / 8) (Bytes (with_bytes (written_in (cell_at a (at / 8))) (at % 8) 1))) (with_stack m (with_byte m.stack at (Byte b)))
one_filled shapes a m at b h small =
    let same : b % 256 ≡ b = omega (arith, small) in
    subst (λ x. IsMember shapes (with_cell a (at / 8) (Bytes (with_bytes (written_in (cell_at a (at / 8))) (at % 8) 1))) (with_stack m (with_byte m.stack at (Byte x)))) same
    (after_number shapes a m sizes.Byte at b h (omega arith))

-- numbers that are written to the stack are known of
pub filled_member : (shapes : List Shape) (a : AbsState) (m : Machine) (at : ℕ) (bs : List ℕ) → IsMember shapes a m → AreBytes bs → IsMember shapes (with_written a at (length bs)) (with_stack m (write m.stack at (map Byte bs)))
filled_member shapes a m at [] h are = record { registers = h.registers; cells = h.cells; maps = h.maps }
filled_member shapes a m at (b ∷ bs) h are =
    let cell = Bytes (with_bytes (written_in (cell_at a (at / 8))) (at % 8) 1) in
    let first = one_filled shapes a m at b h (are 0 0 (omega arith)) in
    let rest = filled_member shapes (with_cell a (at / 8) cell) (with_stack m (with_byte m.stack at (Byte b))) (at + 1) bs first (λ k d below. are (suc k) d (omega (arith, below))) in
    subst (λ s. IsMember shapes (with_written (with_cell a (at / 8) cell) (at + 1) (length bs)) (with_stack m s)) (write_cons m.stack at (Byte b) (map Byte bs)) rest

-- ---- where a register points

element_filled : (shapes : List Shape) (a : AbsState) (m : Machine) (f i at : ℕ) (bs : List ℕ) → IsMember shapes a m → HasElement m.maps f i → at + length bs ≤ length (element m.maps f i) → AreBytes bs
    → IsMember shapes a (meaning.with_bytes m (in_element f i (Some at)) bs)
element_filled shapes a m f i at bs h there fits are =
    let new : List ℕ = over (element m.maps f i) at bs in
    let long = length-over at bs (element m.maps f i) fits in
    maps_member shapes a m (with_element m.maps f i new) h (lengths_of-with_value m.maps f i new (map_there m.maps f i there) there long)
    (with_element_bytes m.maps f i new h.maps.bytes (over_bytes (element m.maps f i) at bs (h.maps.bytes f i) are)) refl

-- bytes that are written where a register points to that was checked
pub given_member : (shapes : List Shape) (a : AbsState) (m : Machine) (k : Kind) (v : Value) (bs : List ℕ) → IsMember shapes a m → Stands m.maps k v → room_check shapes (length bs) k ≡ Ok tt
    → is_room (region m.maps v (length bs)) ≡ true → AreBytes bs → IsMember shapes (filled a (length bs) k) (meaning.with_bytes m (region m.maps v (length bs)) bs)
given_member shapes a m (kind.Stack o) (value.Pointer (pointer.Stack p)) bs h g check =
    rw g
    (fitting_cases stack_size (length bs) p (λ t. is_room (on_stack t) ≡ true → AreBytes bs → IsMember shapes (with_written a p (length bs)) (meaning.with_bytes m (on_stack t) bs)) (λ e are. absurd (cc))
    (λ fits e are. filled_member shapes a m p bs h are))
given_member shapes a m (kind.Stack o) v bs h g check = absurd g
given_member shapes a m (Elem n r) (value.Pointer (pointer.Element f i at)) bs h g check =
    fitting_cases (length (element m.maps f i)) (length bs) at (λ t. is_room (in_element f i t) ≡ true → AreBytes bs → IsMember shapes a (meaning.with_bytes m (in_element f i t) bs)) (λ e are. absurd (cc))
    (λ fits e are. element_filled shapes a m f i at bs h g.2 fits are)
given_member shapes a m (Elem n r) v bs h g check = absurd g
given_member shapes a m k v bs h g check = absurd (cc)
