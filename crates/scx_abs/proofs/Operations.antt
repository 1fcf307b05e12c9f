-- Arithmetic on kinds against arithmetic on values that they stand for.
use Rattle.std.proofs.Common.{◌≡◌, ℕ, ◌+◌, ℤ, pos, negsuc, Bool, true, false, nat_lt, List, length, Option, Some, None, Ok, Err, option_map, if◌then◌else◌, refl, sym, subst}
use Rattle.std.proofs.lemmas.Bool.{ltb-true, le-leb}
use Rattle.scx_isa_semantics.specs.declared.instructions.Operand.{Operand}
use Rattle.scx_isa_semantics.specs.declared.instructions.Operand.TheVariants as operand
use Rattle.scx_isa_semantics.specs.declared.operations.Width.{Width}
use Rattle.scx_isa_semantics.specs.declared.operations.Width.TheVariants.{Bits32, Bits64}
use Rattle.scx_isa_semantics.specs.declared.operations.Operation.{Operation}
use Rattle.scx_isa_semantics.specs.declared.operations.Operation.TheVariants.{Add, Move}
use Rattle.scx_isa_semantics.specs.declared.values.Value.{Value}
use Rattle.scx_isa_semantics.specs.declared.values.Value.TheVariants as value
use Rattle.scx_isa_semantics.specs.declared.values.Pointer as pointers
use Rattle.scx_isa_semantics.specs.declared.values.Pointer.TheVariants as pointer
use Rattle.scx_isa_semantics.specs.declared.registers.Register.{Register}
use Rattle.scx_isa_semantics.specs.Registers.{number}
use Rattle.scx_isa_semantics.specs.Arithmetic.{at_distance}
use Rattle.scx_isa_semantics.specs.Memory.{stack_size, within}
use Rattle.scx_isa_semantics.specs.Elements.{Maps, count, element}
use Rattle.scx_isa_semantics.specs.Machine.{Machine}
use Rattle.scx_isa_semantics.specs.Meaning as meaning
use Rattle.scx_isa_semantics.specs.Meaning.{operand_value, copy_of, number_arithmetic, arithmetic, binary, pointer_step, pointer_moved, pointer_combined, on_number, map_reference}
use Rattle.scx_isa_encoding.specs.Spelling.{IsOperand}
use Rattle.scx_maps.specs.declared.shape.Shape.{Shape}
use Rattle.scx_maps.specs.Contents.{HasShapes}
use Rattle.scx_maps.proofs.Shaped.{length-shaped}
use Rattle.scx_abs.specs.declared.faults.Why.TheVariants.{UnknownMap}
use Rattle.scx_abs_ranges.specs.declared.ranges.Range.{Range}
use Rattle.scx_abs_ranges.specs.Ranges.{IsWellFormed, IsRange, IsIn}
use Rattle.scx_abs_ranges.specs.Offsets as offsets
use Rattle.scx_abs_ranges.specs.OffsetLaws.{IsMoved, IsAdvanced}
use Rattle.scx_abs_ranges.specs.ResultLaws.{AreImages}
use Rattle.scx_abs_ranges.proofs.AllWidths.{arithmetic_is_sound, copies_are_sound}
use Rattle.scx_abs_ranges.proofs.ElementOffsets.{moves_are_sound, advances_are_sound}
use Rattle.scx_abs.specs.declared.kinds.Kind.{Kind}
use Rattle.scx_abs.specs.declared.kinds.Kind.TheVariants as kind
use Rattle.scx_abs.specs.declared.kinds.Kind.TheVariants.{Unusable, Num, Elem, MapRef}
use Rattle.scx_abs.specs.declared.states.AbsState.{AbsState}
use Rattle.scx_abs.specs.Kinds.{IsProperKind, IsUsable}
use Rattle.scx_abs.specs.States.{kind_at, IsProper}
use Rattle.scx_abs.specs.Stands.{HasElement, Stands, IsMember}
use Rattle.scx_isa_semantics.specs.Results.{◌>>=◌}
use Rattle.scx_abs.specs.Checks.{usable, operand_kind, offset_within}
use Rattle.scx_abs.specs.Rules.{in_element, moved_by, moved_kind, computed_kind, advanced_by, element_kind, arithmetic_kind, combined_kind, binary_kind, number_kind, map_kind}
use Rattle.scx_abs.proofs.Registers.{Gives, register_allows, operand_allows, checked}
use Rattle.scx_abs.proofs.Elements.{within_cases, element_sized}

moved_gives : (maps : Maps) (w : Width) (k : Kind) (v : Value) → IsUsable k → IsProperKind k → Stands maps k v → Gives maps (moved_kind w k) (copy_of w v)
moved_gives maps Bits64 k (value.Number n) u p h = h
moved_gives maps Bits64 k (value.Pointer q) u p h = h
moved_gives maps Bits64 Unusable value.Unset u p h = absurd u
moved_gives maps Bits64 k value.Unset u p h = absurd h
moved_gives maps Bits32 (Num r) (value.Number n) u p h = (copies_are_sound Bits32).kept r n p h
moved_gives maps Bits32 (Num r) v u p h = absurd h
moved_gives maps Bits32 k v u p h = tt

-- an operation on one number
pub number_gives : (maps : Maps) (f : ℕ → ℕ) (known : Range → Range) (k : Kind) (v : Value) → AreImages f known → IsProperKind k → Stands maps k v → Gives maps (number_kind known k) (on_number f v)
number_gives maps f known (Num r) (value.Number n) sound p h = sound.kept r n p h
number_gives maps f known (Num r) v sound p h = absurd h
number_gives maps f known k v sound p h = tt

computed_gives : (maps : Maps) (w : Width) (o : Operation) (r : Range) (k : Kind) (a : ℕ) (v : Value) → IsRange r → IsProperKind k → IsIn a r → Stands maps k v → Gives maps (computed_kind w o r k) (number_arithmetic w o a v)
computed_gives maps w o r (Num s) a (value.Number b) p q g h = (arithmetic_is_sound w o).kept r s a b p q g h
computed_gives maps w o r (Num s) a v p q g h = absurd h
computed_gives maps w o r k a v p q g h = tt

-- ---- pointers

stack_moved : (maps : Maps) (t : Option ℕ)
    → Gives maps (offset_within stack_size t >>= λ to. Ok (kind.Stack to)) (option_map (λ to. value.Pointer (pointer.Stack to)) (within stack_size t))
stack_moved maps t =
    within_cases stack_size t (λ r o. Gives maps (r >>= λ to. Ok (kind.Stack to)) (option_map (λ to. value.Pointer (pointer.Stack to)) o))
    (λ why o. tt) (λ to. refl)

-- the value of a pointer into an element, if there is an offset
abbrev pointer_at : ℕ → ℕ → Option ℕ → Option Value
pointer_at m i t = option_map (λ to. value.Pointer (pointer.Element m i to)) t

moved_to : (maps : Maps) (m i size p : ℕ) (d : ℤ) (q : Option Range) → HasElement maps m i → IsMoved size p d q → Gives maps (in_element m q) (pointer_at m i (within size (at_distance p d)))
moved_to maps m i size p d None there h = tt
moved_to maps m i size p d (Some q) there h = subst (λ t. Gives maps (Ok (Elem m q)) (pointer_at m i t)) (sym h.1) (refl, h.2, there)

element_moved : (maps : Maps) (m i size p : ℕ) (d : ℤ) (r : Range) → HasElement maps m i → length (element maps m i) ≡ size → IsWellFormed r → IsIn p r
    → Gives maps (in_element m (offsets.offsets_plus_constant size r d)) (pointer_at m i (within (length (element maps m i)) (at_distance p d)))
element_moved maps m i size p d r there long w h = rw long (moved_to maps m i size p d (offsets.offsets_plus_constant size r d) there (moves_are_sound size r d p w h))

advanced_to : (maps : Maps) (m i size to : ℕ) (q : Option Range) → HasElement maps m i → IsAdvanced size to q → Gives maps (in_element m q) (pointer_at m i (within size (Some to)))
advanced_to maps m i size to None there h = tt
advanced_to maps m i size to (Some q) there h =
    subst (λ b. Gives maps (Ok (Elem m q)) (pointer_at m i (if b then Some to else None))) (sym (le-leb to size h.0)) (refl, h.1, there)

element_advanced : (maps : Maps) (m i size p n : ℕ) (r s : Range) → HasElement maps m i → length (element maps m i) ≡ size → IsWellFormed r → IsRange s → IsIn p r → IsIn n s
    → Gives maps (in_element m (offsets.offsets_plus_range size r s)) (pointer_at m i (within (length (element maps m i)) (Some (p + n))))
element_advanced maps m i size p n r s there long w v h g =
    rw long (advanced_to maps m i size (p + n) (offsets.offsets_plus_range size r s) there (advances_are_sound size r s p n w v.formed h g))

moved_by_gives : (shapes : List Shape) (maps : Maps) (k : Kind) (p : pointers.Pointer) (d : Option ℤ) → HasShapes shapes maps → IsProperKind k → Stands maps k (value.Pointer p)
    → Gives maps (moved_by shapes k d) (pointer_moved maps p d)
moved_by_gives shapes maps (kind.Stack o) (pointer.Stack p) (Some d) shaped w h = rw h (stack_moved maps (at_distance p d))
moved_by_gives shapes maps (kind.Stack o) p (Some d) shaped w h = absurd h
moved_by_gives shapes maps (Elem m r) (pointer.Element n i p) (Some d) shaped w h =
    rw h.0 (element_moved maps n i _ p d r h.2 (element_sized shapes maps n i shaped h.2) w h.1)
moved_by_gives shapes maps (Elem m r) p (Some d) shaped w h = absurd h
moved_by_gives shapes maps k p d shaped w h = tt

advanced_gives : (shapes : List Shape) (maps : Maps) (n l i at : ℕ) (r : Range) (k : Kind) (v : Value) → HasShapes shapes maps → IsWellFormed r → IsProperKind k
    → Stands maps (Elem n r) (value.Pointer (pointer.Element l i at)) → Stands maps k v → Gives maps (advanced_by shapes n r k) (meaning.pointer_plus_number maps l i at v)
advanced_gives shapes maps n l i at r (Num s) (value.Number b) shaped p q h g =
    rw h.0 (element_advanced maps l i _ at b r s h.2 (element_sized shapes maps l i shaped h.2) p q h.1 g)
advanced_gives shapes maps n l i at r (Num s) v shaped p q h g = absurd g
advanced_gives shapes maps n l i at r k v shaped p q h g = tt

-- a pointer to the stack is moved by constants alone
stack_gives : (shapes : List Shape) (m : Machine) (w : Width) (o : Operation) (q : pointers.Pointer) (x : Operand) (p : ℕ) → HasShapes shapes m.maps → Stands m.maps (kind.Stack p) (value.Pointer q)
    → Gives m.maps (moved_by shapes (kind.Stack p) (pointer_step w o x)) (pointer_combined m w o q x)
stack_gives shapes m Bits64 Add (pointer.Element l i at) (operand.Register r) p s h = tt
stack_gives shapes m w o q x p s h = moved_by_gives shapes m.maps (kind.Stack p) q (pointer_step w o x) s tt h

element_gives : (shapes : List Shape) (m : Machine) (w : Width) (o : Operation) (q : pointers.Pointer) (x : Operand) (n : ℕ) (r : Range) (k : Kind) → HasShapes shapes m.maps → IsWellFormed r → IsProperKind k
    → Stands m.maps (Elem n r) (value.Pointer q) → Stands m.maps k (operand_value m w x) → Gives m.maps (element_kind shapes w o x n r k) (pointer_combined m w o q x)
element_gives shapes m Bits64 Add (pointer.Element l i at) (operand.Register d) n r k s p u h g = advanced_gives shapes m.maps n l i at r k (m.registers (number d)) s p u h g
element_gives shapes m Bits64 Add q (operand.Register d) n r k s p u h g = absurd h
element_gives shapes m w o q x n r k s p u h g = moved_by_gives shapes m.maps (Elem n r) q (pointer_step w o x) s p h

-- ---- all operations

arithmetic_gives : (shapes : List Shape) (m : Machine) (w : Width) (o : Operation) (x : Operand) (j k : Kind) (old : Value) → HasShapes shapes m.maps → IsProperKind j → IsProperKind k → Stands m.maps j old
    → Stands m.maps k (operand_value m w x) → Gives m.maps (arithmetic_kind shapes w o x j k) (arithmetic m w o old x)
arithmetic_gives shapes m w o x (Num r) k (value.Number a) s p q h g = computed_gives m.maps w o r k a (operand_value m w x) p q h g
arithmetic_gives shapes m w o x (Num r) k old s p q h g = absurd h
arithmetic_gives shapes m w o x (kind.Stack n) k (value.Pointer t) s p q h g = stack_gives shapes m w o t x n s h
arithmetic_gives shapes m w o x (kind.Stack n) k old s p q h g = absurd h
arithmetic_gives shapes m w o x (Elem n r) k (value.Pointer t) s p q h g = element_gives shapes m w o t x n r k s p q h g
arithmetic_gives shapes m w o x (Elem n r) k old s p q h g = absurd h
arithmetic_gives shapes m w o x j k old s p q h g = tt

combined_kind_gives : (shapes : List Shape) (a : AbsState) (m : Machine) (w : Width) (o : Operation) (d : Register) (x : Operand) → IsOperand x → IsProper a → IsMember shapes a m
    → Gives m.maps (combined_kind shapes a w o d x) (arithmetic m w o (m.registers (number d)) x)
combined_kind_gives shapes a m w o d x fits p h =
    checked m.maps (usable (kind_at a (number d))) (m.registers (number d)) (λ j. operand_kind a w x >>= λ k. arithmetic_kind shapes w o x j k)
    (λ r. Gives m.maps r (arithmetic m w o (m.registers (number d)) x)) (λ why. tt)
    (register_allows shapes a m d p h)
    (λ j uj pj hj. checked m.maps (operand_kind a w x) (operand_value m w x) (λ k. arithmetic_kind shapes w o x j k)
    (λ r. Gives m.maps r (arithmetic m w o (m.registers (number d)) x)) (λ why. tt) (operand_allows shapes a m w x fits p h)
    (λ k uk pk hk. arithmetic_gives shapes m w o x j k (m.registers (number d)) h.maps pj pk hj hk))

-- an operation on two operands
pub binary_gives : (shapes : List Shape) (a : AbsState) (m : Machine) (w : Width) (o : Operation) (d : Register) (x : Operand) → IsOperand x → IsProper a → IsMember shapes a m
    → Gives m.maps (binary_kind shapes a w o d x) (binary m w o (m.registers (number d)) x)
binary_gives shapes a m w Move d x fits p h =
    checked m.maps (operand_kind a w x) (operand_value m w x) (λ k. moved_kind w k) (λ r. Gives m.maps r (copy_of w (operand_value m w x))) (λ why. tt) (operand_allows shapes a m w x fits p h)
    (λ k uk pk hk. moved_gives m.maps w k (operand_value m w x) uk pk hk)
binary_gives shapes a m w o d x fits p h = combined_kind_gives shapes a m w o d x fits p h

-- ---- references to maps

map_there : (maps : Maps) (k : ℕ) (b : Bool) → nat_lt k (count maps) ≡ b
    → Gives maps (if b then Ok (MapRef k) else Err UnknownMap) (if b then Some (value.Pointer (pointer.Map k)) else None)
map_there maps k true e = (refl, ltb-true k (count maps) e)
map_there maps k false e = tt

-- a reference to a map
pub map_gives : (shapes : List Shape) (maps : Maps) (k : ℤ) → HasShapes shapes maps → Gives maps (map_kind shapes k) (map_reference maps k)
map_gives shapes maps (pos k) shaped = rw (← length-shaped shapes maps shaped) (map_there maps k (nat_lt k (count maps)) refl)
map_gives shapes maps (negsuc k) shaped = tt
