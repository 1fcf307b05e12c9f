-- The canonical text of a program has one line for each instruction: no byte of it ends a line early.
use Rattle.std.proofs.Common.{◌≡◌, ℕ, zero, suc, ◌-◌, ◌^◌, ◌<◌, ℤ, pos, negsuc, Bool, true, false, ◌&&◌, nat_eq, nat_lt, codes, List, [], ◌∷◌, ◌++◌, length, map, slice_index, refl, ap, ◌∙◌, append_assoc, arith, lit<}
use Rattle.std.proofs.lemmas.Bool.{ltb-true, lt-ltb, ne_eqb}
use Rattle.std.proofs.lemmas.Fmt.{decimal_is_IsNumeral}
use Rattle.std.proofs.lemmas.Str.Parse.{tells_digits}
use Rattle.std.specs.Fmt.{decimal, signed_decimal}
use Rattle.std.specs.List.{flat_map, slice_split, AllByRecursion}
use Rattle.std.specs.Str.Lines.{lines, lines_of_parts, strip_carriage_return}
use Rattle.std.specs.Str.Parse.{AllDigits}
use Rattle.scx_isa_semantics.specs.declared.operations.Width.{Width}
use Rattle.scx_isa_semantics.specs.declared.operations.Width.TheVariants.{Bits32, Bits64}
use Rattle.scx_isa_semantics.specs.declared.operations.Operation.TheVariants.{Add, Subtract, Multiply, Divide, SignedDivide, Or, And, Xor, ShiftLeft, ShiftRight, ShiftRightSigned, Modulo, SignedModulo, Move}
use Rattle.scx_isa_semantics.specs.declared.operations.Comparison.TheVariants.{Equal, Greater, GreaterOrEqual, BitTest, NotEqual, SignedGreater, SignedGreaterOrEqual, Less, LessOrEqual, SignedLess, SignedLessOrEqual}
use Rattle.scx_isa_semantics.specs.declared.operations.Access.{Access}
use Rattle.scx_isa_semantics.specs.declared.operations.Access.TheVariants as access
use Rattle.scx_isa_semantics.specs.declared.operations.ByteOrder.{ByteOrder}
use Rattle.scx_isa_semantics.specs.declared.operations.ByteOrder.TheVariants.{Little, Big, Swapped}
use Rattle.scx_isa_semantics.specs.declared.operations.SwapWidth.{SwapWidth}
use Rattle.scx_isa_semantics.specs.declared.operations.SwapWidth.TheVariants as order
use Rattle.scx_isa_semantics.specs.declared.registers.Register.{Register}
use Rattle.scx_isa_semantics.specs.declared.registers.Register.TheVariants.{R0, R1, R2, R3, R4, R5, R6, R7, R8, R9, R10}
use Rattle.scx_isa_semantics.specs.Registers.{number}
use Rattle.scx_isa_semantics.specs.declared.instructions.Operand.{Operand}
use Rattle.scx_isa_semantics.specs.declared.instructions.Operand.TheVariants as operand
use Rattle.scx_isa_semantics.specs.declared.instructions.Insn.{Insn}
use Rattle.scx_isa_semantics.specs.declared.instructions.Insn.TheVariants as insn
use Rattle.scx_isa_semantics.specs.Arithmetic as arithmetic
use Rattle.scx_isa_semantics.specs.Arithmetic.{extension_width}
use Rattle.scx_isa_encoding.specs.Spelling.{IsOperand, IsInsn}
use Rattle.scx_asm_text.specs.declared.symbols.Symbol.{Symbol}
use Rattle.scx_asm_text.specs.declared.symbols.Symbol.TheVariants.{Assign, Compare, Plus, Minus, Star, Opening, Closing, Colon}
use Rattle.scx_asm_text.specs.Symbols.{spelling}
use Rattle.scx_asm_text.specs.Names.{width_text, register_text, access_text, stored_access, extension_access, order_text}
use Rattle.scx_asm_text.specs.Canonical.{operand_text, offset_text, distance_text, memory_operand_text, insn_text}
use Rattle.scx_asm.proofs.TokensBack.{and_true}
use Rattle.scx_asm.proofs.InsnsBack.{Small, small32, small16, wide_immediate_small}

-- the bytes are above those that end lines
abbrev pub plain : List ℕ → Bool
plain [] = true
plain (b ∷ bs) = nat_lt 13 b && plain bs

both : (a b : List ℕ) → plain a ≡ true → plain b ≡ true → plain (a ++ b) ≡ true
both [] b x y = y
both (c ∷ a) b x y =
    let p = and_true (nat_lt 13 c) (plain a) x in
    rw p.0 (both a b p.1 y)

plain_digits : (ds : List ℕ) → AllDigits 10 ds → plain ds ≡ true
plain_digits [] h = refl
plain_digits (d ∷ ds) h =
    let parts = tells_digits.parts d ds h in
    let low = parts.0.0 in
    let above : 13 < d = omega arith in
    rw (lt-ltb _ _ above) (plain_digits ds parts.1)

plain_decimal : (n : ℕ) → n < 2 ^ 64 → plain (decimal n) ≡ true
plain_decimal n h = plain_digits (decimal n) (decimal_is_IsNumeral n h).0.1

plain_signed : (z : ℤ) → Small z → plain (signed_decimal z) ≡ true
plain_signed (pos n) h = plain_decimal n h
plain_signed (negsuc n) h = plain_decimal (suc n) h

plain_distance : (z : ℤ) → Small z → plain (distance_text z) ≡ true
plain_distance (pos n) h = plain_decimal n h
plain_distance (negsuc n) h = plain_decimal (suc n) h

plain_offset : (z : ℤ) → Small z → plain (offset_text z) ≡ true
plain_offset (pos n) h = plain_decimal n h
plain_offset (negsuc n) h = plain_decimal (suc n) h

small_number : (r : Register) → number r < 2 ^ 64
small_number R0 = lit< tt
small_number R1 = lit< tt
small_number R2 = lit< tt
small_number R3 = lit< tt
small_number R4 = lit< tt
small_number R5 = lit< tt
small_number R6 = lit< tt
small_number R7 = lit< tt
small_number R8 = lit< tt
small_number R9 = lit< tt
small_number R10 = lit< tt

plain_width : (w : Width) → plain (width_text w) ≡ true
plain_width Bits32 = refl
plain_width Bits64 = refl

plain_register : (w : Width) (r : Register) → plain (register_text w r) ≡ true
plain_register w r = both (width_text w) (decimal (number r)) (plain_width w) (plain_decimal (number r) (small_number r))

plain_operand : (w : Width) (x : Operand) → IsOperand x → plain (operand_text w x) ≡ true
plain_operand w (operand.Immediate k) h = plain_signed k (small32 k h)
plain_operand w (operand.Register r) h = plain_register w r

plain_spelled : (s : Symbol) → plain (spelling s) ≡ true
plain_spelled (Assign Add) = refl
plain_spelled (Assign Subtract) = refl
plain_spelled (Assign Multiply) = refl
plain_spelled (Assign Divide) = refl
plain_spelled (Assign SignedDivide) = refl
plain_spelled (Assign Or) = refl
plain_spelled (Assign And) = refl
plain_spelled (Assign Xor) = refl
plain_spelled (Assign ShiftLeft) = refl
plain_spelled (Assign ShiftRight) = refl
plain_spelled (Assign ShiftRightSigned) = refl
plain_spelled (Assign Modulo) = refl
plain_spelled (Assign SignedModulo) = refl
plain_spelled (Assign Move) = refl
plain_spelled (Compare Equal) = refl
plain_spelled (Compare Greater) = refl
plain_spelled (Compare GreaterOrEqual) = refl
plain_spelled (Compare BitTest) = refl
plain_spelled (Compare NotEqual) = refl
plain_spelled (Compare SignedGreater) = refl
plain_spelled (Compare SignedGreaterOrEqual) = refl
plain_spelled (Compare Less) = refl
plain_spelled (Compare LessOrEqual) = refl
plain_spelled (Compare SignedLess) = refl
plain_spelled (Compare SignedLessOrEqual) = refl
plain_spelled Plus = refl
plain_spelled Minus = refl
plain_spelled Star = refl
plain_spelled Opening = refl
plain_spelled Closing = refl
plain_spelled Colon = refl

plain_access : (a : Access) → plain (access_text a) ≡ true
plain_access access.Byte = refl
plain_access access.HalfWord = refl
plain_access access.Word = refl
plain_access access.DoubleWord = refl
plain_access access.SignedByte = refl
plain_access access.SignedHalfWord = refl
plain_access access.SignedWord = refl

plain_order : (o : ByteOrder) (w : SwapWidth) → plain (order_text (o, w)) ≡ true
plain_order Little order.Bits16 = refl
plain_order Little order.Bits32 = refl
plain_order Little order.Bits64 = refl
plain_order Big order.Bits16 = refl
plain_order Big order.Bits32 = refl
plain_order Big order.Bits64 = refl
plain_order Swapped order.Bits16 = refl
plain_order Swapped order.Bits32 = refl
plain_order Swapped order.Bits64 = refl

both3 : (a b c : List ℕ) → plain a ≡ true → plain b ≡ true → plain c ≡ true → plain (a ++ b ++ c) ≡ true
both3 a b c x y z = both (a ++ b) c (both a b x y) z

both4 : (a b c d : List ℕ) → plain a ≡ true → plain b ≡ true → plain c ≡ true → plain d ≡ true → plain (a ++ b ++ c ++ d) ≡ true
both4 a b c d x y z u = both (a ++ b ++ c) d (both3 a b c x y z) u

both5 : (a b c d e : List ℕ) → plain a ≡ true → plain b ≡ true → plain c ≡ true → plain d ≡ true → plain e ≡ true → plain (a ++ b ++ c ++ d ++ e) ≡ true
both5 a b c d e x y z u v = both (a ++ b ++ c ++ d) e (both4 a b c d x y z u) v

plain_memory_operand : (a : List ℕ) (r : Register) (o : ℤ) → plain a ≡ true → Small o → plain (memory_operand_text a r o) ≡ true
plain_memory_operand a r o x h =
    both3 (codes "*(" ++ a ++ codes " *)(" ++ register_text Bits64 r ++ codes " ") (offset_text o) (codes ")")
    (both5 (codes "*(") a (codes " *)(") (register_text Bits64 r) (codes " ") refl x refl (plain_register Bits64 r) refl) (plain_offset o h) refl

-- no byte of its text ends a line
pub plain_insn : (i : Insn) → IsInsn i → plain (insn_text i) ≡ true
plain_insn (insn.Binary w o d x) h = both5 (register_text w d) (codes " ") (spelling (Assign o)) (codes " ") (operand_text w x) (plain_register w d) refl (plain_spelled (Assign o)) refl (plain_operand w x h)
plain_insn (insn.Negate w d) h = both3 (register_text w d) (codes " = -") (register_text w d) (plain_register w d) refl (plain_register w d)
plain_insn (insn.SignExtend e d r) h = both5 (register_text (extension_width e) d) (codes " = (") (access_text (extension_access e)) (codes ")") (register_text (extension_width e) r) (plain_register (extension_width e) d) refl (plain_access (extension_access e)) refl (plain_register (extension_width e) r)
plain_insn (insn.ByteSwap o w d) h = both5 (register_text Bits64 d) (codes " = ") (order_text (o, w)) (codes " ") (register_text Bits64 d) (plain_register Bits64 d) refl (plain_order o w) refl (plain_register Bits64 d)
plain_insn (insn.LoadImmediate d low high) h = both4 (register_text Bits64 d) (codes " = ") (decimal (arithmetic.wide_immediate low high)) (codes " ll") (plain_register Bits64 d) refl (plain_decimal (arithmetic.wide_immediate low high) (wide_immediate_small low high h.0 h.1)) refl
plain_insn (insn.LoadMapReference d k) h = both3 (register_text Bits64 d) (codes " = map ") (signed_decimal k) (plain_register Bits64 d) refl (plain_signed k (small32 k h))
plain_insn (insn.Load a d r o) h = both3 (register_text Bits64 d) (codes " = ") (memory_operand_text (access_text a) r o) (plain_register Bits64 d) refl (plain_memory_operand (access_text a) r o (plain_access a) (small16 o h))
plain_insn (insn.Store s r o x) h = both3 (memory_operand_text (access_text (stored_access s)) r o) (codes " = ") (operand_text Bits64 x) (plain_memory_operand (access_text (stored_access s)) r o (plain_access (stored_access s)) (small16 o h.0)) refl (plain_operand Bits64 x h.1)
plain_insn (insn.JumpIf w c r x o) h =
    both4 (codes "if " ++ register_text w r ++ codes " " ++ spelling (Compare c) ++ codes " ") (operand_text w x) (codes " goto ") (distance_text o)
    (both5 (codes "if ") (register_text w r) (codes " ") (spelling (Compare c)) (codes " ") refl (plain_register w r) refl (plain_spelled (Compare c)) refl) (plain_operand w x h.1) refl (plain_distance o (small16 o h.0))
plain_insn (insn.Goto o) h = both (codes "goto ") (distance_text o) refl (plain_distance o (small16 o h))
plain_insn (insn.GotoLong o) h = both (codes "gotol ") (distance_text o) refl (plain_distance o (small32 o h))
plain_insn (insn.Call k) h = both (codes "call ") (signed_decimal k) refl (plain_signed k (small32 k h))
plain_insn insn.Exit h = refl

-- ---- lines

-- the instructions' texts, each with a line feed behind it
abbrev pub lines_text : List Insn → List ℕ
lines_text is = flat_map (λ i. insn_text i ++ codes "\n") is

abbrev feeds : ℕ → Bool
feeds b = nat_eq b 10

parted : (l rest : List ℕ) → plain l ≡ true → slice_split feeds (l ++ (10 ∷ rest)) ≡ l ∷ slice_split feeds rest
parted [] rest h = refl
parted (b ∷ l) rest h =
    let p = and_true (nat_lt 13 b) (plain l) h in
    let above = ltb-true _ _ p.0 in
    let none : nat_eq b 10 ≡ false = ne_eqb b 10 (λ e. omega arith) in
    rw (none, parted l rest p.1) refl

no_return : (l : List ℕ) (k : ℕ) → plain l ≡ true → nat_eq (slice_index l k) 13 ≡ false
no_return [] k h = refl
no_return (b ∷ l) zero h =
    let above = ltb-true _ _ (and_true (nat_lt 13 b) (plain l) h).0 in
    ne_eqb b 13 (λ e. omega arith)
no_return (b ∷ l) (suc k) h = no_return l k (and_true (nat_lt 13 b) (plain l) h).1

stripped : (l : List ℕ) → plain l ≡ true → strip_carriage_return l ≡ l
stripped l h = rw (no_return l (length l - 1) h) refl

split_again : (is : List Insn) → AllByRecursion IsInsn is → slice_split feeds (lines_text is) ≡ map insn_text is ++ ([] ∷ [])
split_again [] h = refl
split_again (i ∷ is) h =
    let group : lines_text (i ∷ is) ≡ insn_text i ++ (10 ∷ lines_text is) = append_assoc (insn_text i) (codes "\n") (lines_text is) in
    rw (group, parted (insn_text i) (lines_text is) (plain_insn i h.0), split_again is h.1) refl

parts_again : (is : List Insn) → AllByRecursion IsInsn is → lines_of_parts (map insn_text is ++ ([] ∷ [])) ≡ map insn_text is
parts_again [] h = refl
parts_again (i ∷ []) h = rw (stripped (insn_text i) (plain_insn i h.0)) refl
parts_again (i ∷ j ∷ is) h = rw (stripped (insn_text i) (plain_insn i h.0), parts_again (j ∷ is) h.1) refl

-- so the lines are the texts of the instructions
pub lines_again : (is : List Insn) → AllByRecursion IsInsn is → lines (lines_text is) ≡ map insn_text is
lines_again is h = ap (λ (x : List (List ℕ)). lines_of_parts x) (split_again is h) ∙ parts_again is h
