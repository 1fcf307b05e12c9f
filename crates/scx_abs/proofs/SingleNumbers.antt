-- What operations make of single numbers.
use Rattle.std.proofs.Common.{◌≡◌, ℕ, true, ◌&&◌, nat_eq, List, Ok, if◌then◌else◌, refl, ap, ◌∙◌}
use Rattle.std.proofs.lemmas.Bool.{eq-eqb}
use Rattle.scx_isa_semantics.specs.Results.{◌>>=◌}
use Rattle.scx_isa_semantics.specs.declared.instructions.Operand.{Operand}
use Rattle.scx_isa_semantics.specs.declared.operations.Width.{Width}
use Rattle.scx_isa_semantics.specs.declared.operations.Width.TheVariants.{Bits32, Bits64}
use Rattle.scx_isa_semantics.specs.declared.operations.Operation.{Operation}
use Rattle.scx_isa_semantics.specs.declared.operations.Operation.TheVariants.{Move}
use Rattle.scx_isa_semantics.specs.declared.registers.Register.{Register}
use Rattle.scx_isa_semantics.specs.Registers.{number}
use Rattle.scx_isa_semantics.specs.Arithmetic.{low, compute}
use Rattle.scx_maps.specs.declared.shape.Shape.{Shape}
use Rattle.scx_abs_ranges.specs.Ranges.{single}
use Rattle.scx_abs_ranges.specs.Results.{computed_at, spread, words}
use Rattle.scx_abs_ranges.specs.declared.ranges.Range.{Range}
use Rattle.scx_abs.specs.declared.kinds.Kind.{Kind}
use Rattle.scx_abs.specs.declared.kinds.Kind.TheVariants.{Unusable, Num, Stack, Elem, ElemOrNull, Task, TaskOrNull, MapRef}
use Rattle.scx_abs.specs.declared.states.AbsState.{AbsState}
use Rattle.scx_abs.specs.Checks.{usable, operand_kind}
use Rattle.scx_abs.specs.States.{kind_at}
use Rattle.scx_abs.specs.Pieces.{combined_numbers}
use Rattle.scx_abs.specs.Rules.{numbers_of, moved_kind, computed_kind, arithmetic_kind, combined_kind, binary_kind}

both_single : (m n : ℕ) → (nat_eq m m && nat_eq n n) ≡ true
both_single m n = ap (λ b. b && nat_eq n n) (eq-eqb m m refl) ∙ eq-eqb n n refl

computed_singles : (w : Width) (o : Operation) (m n : ℕ) → computed_at w o (single m) (single n) ≡ single (compute w o m n)
computed_singles Bits32 o m n = ap (λ b. if b then single (compute Bits32 o m n) else words) (both_single m n)
computed_singles Bits64 o m n = ap (λ b. if b then single (compute Bits64 o m n) else spread o (single m) (single n)) (both_single m n)

copied_single : (w : Width) (n : ℕ) → moved_kind w (Num (single n)) ≡ Ok (Num (single (low w n)))
copied_single Bits32 n = ap (λ b. Ok (Num (if b then single (low Bits32 n) else words))) (eq-eqb n n refl)
copied_single Bits64 n = refl

-- a move of a single number leaves it, cut to the width
pub single_moved : (shapes : List Shape) (a : AbsState) (w : Width) (d : Register) (x : Operand) (n : ℕ) → operand_kind a w x ≡ Ok (Num (single n))
    → binary_kind shapes a w Move d x ≡ Ok (Num (single (low w n)))
single_moved shapes a w d x n e = ap (λ k. k >>= moved_kind w) e ∙ copied_single w n

-- arithmetic of two single numbers leaves the number that it computes
pub single_combined : (shapes : List Shape) (a : AbsState) (w : Width) (o : Operation) (d : Register) (x : Operand) (m n : ℕ)
    → kind_at a (number d) ≡ Num (single m) → operand_kind a w x ≡ Ok (Num (single n))
    → combined_kind shapes a w o d x ≡ Ok (Num (single (compute w o m n)))
single_combined shapes a w o d x m n e f =
    ap (λ j. usable j >>= (λ j. operand_kind a w x >>= (λ k. arithmetic_kind shapes w o x j k))) e
    ∙ (ap (λ k. k >>= (λ k. arithmetic_kind shapes w o x (Num (single m)) k)) f
    ∙ ap (λ r. Ok (Num r)) (computed_singles w o m n))

-- an operand of arithmetic on numbers is a number that is read
pub numbers_usable : (w : Width) (o : Operation) (r : Range) (k : Kind) → combined_numbers w o r (numbers_of k) ≡ usable k >>= computed_kind w o r
numbers_usable w o r Unusable = refl
numbers_usable w o r (Num s) = refl
numbers_usable w o r (Stack at) = refl
numbers_usable w o r (Elem m s) = refl
numbers_usable w o r (ElemOrNull m) = refl
numbers_usable w o r Task = refl
numbers_usable w o r TaskOrNull = refl
numbers_usable w o r (MapRef m) = refl
