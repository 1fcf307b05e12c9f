-- Arithmetic on kinds and on kinds that they cover.
use Rattle.std.proofs.Common.{◌≡◌, ℕ, ℤ, List, Option, Some, None, refl}
use Rattle.scx_isa_semantics.specs.declared.instructions.Operand.{Operand}
use Rattle.scx_isa_semantics.specs.declared.instructions.Operand.TheVariants as operand
use Rattle.scx_isa_semantics.specs.declared.operations.Width.{Width}
use Rattle.scx_isa_semantics.specs.declared.operations.Width.TheVariants.{Bits32, Bits64}
use Rattle.scx_isa_semantics.specs.declared.operations.Operation.{Operation}
use Rattle.scx_isa_semantics.specs.declared.operations.Operation.TheVariants.{Add, Move}
use Rattle.scx_isa_semantics.specs.declared.registers.Register.{Register}
use Rattle.scx_isa_semantics.specs.Registers.{number}
use Rattle.scx_isa_semantics.specs.Meaning.{pointer_step}
use Rattle.scx_isa_encoding.specs.Spelling.{IsOperand}
use Rattle.scx_maps.specs.declared.shape.Shape.{Shape}
use Rattle.scx_abs_ranges.specs.declared.ranges.Range.{Range}
use Rattle.scx_abs_ranges.specs.Ranges.{IsWellFormed, IsRange, CoversRange}
use Rattle.scx_abs_ranges.specs.Offsets as offsets
use Rattle.scx_abs_ranges.specs.OffsetLaws.{PassesMove}
use Rattle.scx_abs_ranges.specs.ResultLaws.{AreImages}
use Rattle.scx_abs_ranges.proofs.AllWidths.{arithmetic_is_sound, copies_are_sound}
use Rattle.scx_abs_ranges.proofs.ElementOffsets.{moves_are_monotone, advances_are_monotone}
use Rattle.scx_abs.specs.declared.kinds.Kind.{Kind}
use Rattle.scx_abs.specs.declared.kinds.Kind.TheVariants.{Num, Stack, Elem}
use Rattle.scx_abs.specs.declared.states.AbsState.{AbsState}
use Rattle.scx_abs.specs.Kinds.{CoversKind, IsProperKind}
use Rattle.scx_abs.specs.States.{CoversState, IsProper, kind_at}
use Rattle.scx_isa_semantics.specs.Results.{◌>>=◌}
use Rattle.scx_abs.specs.Checks.{usable, operand_kind, element_size}
use Rattle.scx_abs.specs.Rules.{in_element, moved_by, moved_kind, computed_kind, advanced_by, element_kind, arithmetic_kind, binary_kind, number_kind}
use Rattle.scx_abs.specs.Monotone.{PassesToo}
use Rattle.scx_abs.proofs.Orders.{kind_itself}
use Rattle.scx_abs.proofs.MonotoneRegisters.{passes_itself, passes_then, CoversUsable, read_monotone, operand_monotone}

moved_monotone : (w : Width) (j k : Kind) → CoversUsable j k → PassesToo CoversKind (moved_kind w j) (moved_kind w k)
moved_monotone Bits64 j k h = h.1
moved_monotone Bits32 (Num s) (Num r) h = (copies_are_sound Bits32).grow s r h.2 h.3 h.1
moved_monotone Bits32 (Num s) k h = absurd h.1
moved_monotone Bits32 j k h = tt

in_element_monotone : (m : ℕ) (c r : Option Range) → PassesMove c r → PassesToo CoversKind (in_element m c) (in_element m r)
in_element_monotone m None r h = tt
in_element_monotone m (Some c) None h = absurd h
in_element_monotone m (Some c) (Some r) h = (refl, h)

moved_by_monotone : (shapes : List Shape) (j k : Kind) (d : Option ℤ) → CoversUsable j k → PassesToo CoversKind (moved_by shapes j d) (moved_by shapes k d)
moved_by_monotone shapes (Stack o) (Stack p) (Some d) h = rw h.1 (passes_itself CoversKind (moved_by shapes (Stack p) (Some d)) kind_itself)
moved_by_monotone shapes (Stack o) k (Some d) h = absurd h.1
moved_by_monotone shapes (Elem m c) (Elem n r) (Some d) h =
    rw h.1.0 (in_element_monotone n (offsets.offsets_plus_constant (element_size shapes n) c d) (offsets.offsets_plus_constant (element_size shapes n) r d) (moves_are_monotone (element_size shapes n) c r d h.2 h.3 h.1.1))
moved_by_monotone shapes (Elem m c) k (Some d) h = absurd h.1
moved_by_monotone shapes j k d h = tt

computed_monotone : (w : Width) (o : Operation) (s r : Range) (l m : Kind) → CoversRange s r → IsRange s → IsRange r → CoversUsable l m
    → PassesToo CoversKind (computed_kind w o s l) (computed_kind w o r m)
computed_monotone w o s r (Num t) (Num u) h p q g = (arithmetic_is_sound w o).grow s t r u p g.2 q g.3 h g.1
computed_monotone w o s r (Num t) m h p q g = absurd g.1
computed_monotone w o s r l m h p q g = tt

advanced_monotone : (shapes : List Shape) (m n : ℕ) (c r : Range) (l k : Kind) → m ≡ n → CoversRange c r → IsWellFormed c → IsWellFormed r → CoversUsable l k
    → PassesToo CoversKind (advanced_by shapes m c l) (advanced_by shapes n r k)
advanced_monotone shapes m n c r (Num t) (Num u) e h p q g =
    rw e (in_element_monotone n (offsets.offsets_plus_range (element_size shapes n) c t) (offsets.offsets_plus_range (element_size shapes n) r u)
    (advances_are_monotone (element_size shapes n) c t r u p g.2.formed q g.3.formed h g.1))
advanced_monotone shapes m n c r (Num t) k e h p q g = absurd g.1
advanced_monotone shapes m n c r l k e h p q g = tt

element_monotone : (shapes : List Shape) (w : Width) (o : Operation) (x : Operand) (m n : ℕ) (c r : Range) (l k : Kind) → CoversUsable (Elem m c) (Elem n r) → CoversUsable l k
    → PassesToo CoversKind (element_kind shapes w o x m c l) (element_kind shapes w o x n r k)
element_monotone shapes Bits64 Add (operand.Register d) m n c r l k g h = advanced_monotone shapes m n c r l k g.1.0 g.1.1 g.2 g.3 h
element_monotone shapes w o x m n c r l k g h = moved_by_monotone shapes (Elem m c) (Elem n r) (pointer_step w o x) g

arithmetic_monotone : (shapes : List Shape) (w : Width) (o : Operation) (x : Operand) (j k l m : Kind) → CoversUsable j k → CoversUsable l m
    → PassesToo CoversKind (arithmetic_kind shapes w o x j l) (arithmetic_kind shapes w o x k m)
arithmetic_monotone shapes w o x (Num s) (Num r) l m g h = computed_monotone w o s r l m g.1 g.2 g.3 h
arithmetic_monotone shapes w o x (Num s) k l m g h = absurd g.1
arithmetic_monotone shapes w o x (Stack p) (Stack q) l m g h = moved_by_monotone shapes (Stack p) (Stack q) (pointer_step w o x) g
arithmetic_monotone shapes w o x (Stack p) k l m g h = absurd g.1
arithmetic_monotone shapes w o x (Elem n p) (Elem q r) l m g h = element_monotone shapes w o x n q p r l m g h
arithmetic_monotone shapes w o x (Elem n p) k l m g h = absurd g.1
arithmetic_monotone shapes w o x j k l m g h = tt

-- operations on two operands
pub binary_monotone : (shapes : List Shape) (b a : AbsState) (w : Width) (o : Operation) (d : Register) (x : Operand) → IsOperand x → IsProper b → IsProper a → CoversState b a
    → PassesToo CoversKind (binary_kind shapes b w o d x) (binary_kind shapes a w o d x)
binary_monotone shapes b a w Move d x fits q p h =
    passes_then CoversUsable CoversKind (operand_kind b w x) (operand_kind a w x) (λ k. moved_kind w k) (λ k. moved_kind w k) (operand_monotone b a w x fits q p h) (λ j k g. moved_monotone w j k g)
binary_monotone shapes b a w o d x fits q p h =
    passes_then CoversUsable CoversKind (usable (kind_at b (number d))) (usable (kind_at a (number d)))
    (λ j. operand_kind b w x >>= λ k. arithmetic_kind shapes w o x j k) (λ j. operand_kind a w x >>= λ k. arithmetic_kind shapes w o x j k)
    (read_monotone b a d q p h)
    (λ j k g. passes_then CoversUsable CoversKind (operand_kind b w x) (operand_kind a w x) (λ l. arithmetic_kind shapes w o x j l) (λ l. arithmetic_kind shapes w o x k l) (operand_monotone b a w x fits q p h)
    (λ l m f. arithmetic_monotone shapes w o x j k l m g f))

-- operations on one number
pub number_monotone : (f : ℕ → ℕ) (known : Range → Range) (j k : Kind) → AreImages f known → IsProperKind j → IsProperKind k → CoversKind j k → PassesToo CoversKind (number_kind known j) (number_kind known k)
number_monotone f known (Num s) (Num r) sound p q h = sound.grow s r p q h
number_monotone f known (Num s) k sound p q h = absurd h
number_monotone f known j k sound p q h = tt
