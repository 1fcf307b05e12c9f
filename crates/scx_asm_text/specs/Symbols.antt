-- The symbols of the assembly language and their spellings: the operators and comparisons that
-- clang and llvm-objdump print for BPF, and punctuation. This is the one table of them, which
-- reading and printing share.
use Rattle.std.specs.Prelude.{ℕ, nat_eq, List, [], ◌∷◌, codes, Option, Some, None, if◌then◌else◌}
use Rattle.std.specs.List.{starts_with}
use Rattle.scx_isa_semantics.specs.declared.operations.Operation.TheVariants.{Add, Subtract, Multiply, Divide, SignedDivide, Or, And, Xor, ShiftLeft, ShiftRight, ShiftRightSigned, Modulo, SignedModulo, Move}
use Rattle.scx_isa_semantics.specs.declared.operations.Comparison.TheVariants.{Equal, Greater, GreaterOrEqual, BitTest, NotEqual, SignedGreater, SignedGreaterOrEqual, Less, LessOrEqual, SignedLess, SignedLessOrEqual}
use Rattle.scx_asm_text.specs.declared.symbols.Symbol.{Symbol}
use Rattle.scx_asm_text.specs.declared.symbols.Symbol.TheVariants.{Assign, Compare, Plus, Minus, Star, Opening, Closing, Colon}

-- the bytes that spell a symbol
abbrev pub spelling : Symbol → List ℕ
spelling (Assign Add) = codes "+="
spelling (Assign Subtract) = codes "-="
spelling (Assign Multiply) = codes "*="
spelling (Assign Divide) = codes "/="
spelling (Assign SignedDivide) = codes "s/="
spelling (Assign Or) = codes "|="
spelling (Assign And) = codes "&="
spelling (Assign Xor) = codes "^="
spelling (Assign ShiftLeft) = codes "<<="
spelling (Assign ShiftRight) = codes ">>="
spelling (Assign ShiftRightSigned) = codes "s>>="
spelling (Assign Modulo) = codes "%="
spelling (Assign SignedModulo) = codes "s%="
spelling (Assign Move) = codes "="
spelling (Compare Equal) = codes "=="
spelling (Compare Greater) = codes ">"
spelling (Compare GreaterOrEqual) = codes ">="
spelling (Compare BitTest) = codes "&"
spelling (Compare NotEqual) = codes "!="
spelling (Compare SignedGreater) = codes "s>"
spelling (Compare SignedGreaterOrEqual) = codes "s>="
spelling (Compare Less) = codes "<"
spelling (Compare LessOrEqual) = codes "<="
spelling (Compare SignedLess) = codes "s<"
spelling (Compare SignedLessOrEqual) = codes "s<="
spelling Plus = codes "+"
spelling Minus = codes "-"
spelling Star = codes "*"
spelling Opening = codes "("
spelling Closing = codes ")"
spelling Colon = codes ":"

-- all symbols, the longer ones first
abbrev pub symbols : List Symbol
symbols =
    Assign ShiftRightSigned ∷ Assign SignedDivide ∷ Assign SignedModulo ∷ Assign ShiftLeft
    ∷ Assign ShiftRight ∷ Compare SignedGreaterOrEqual ∷ Compare SignedLessOrEqual ∷ Assign Add
    ∷ Assign Subtract ∷ Assign Multiply ∷ Assign Divide ∷ Assign Or ∷ Assign And ∷ Assign Xor
    ∷ Assign Modulo ∷ Compare Equal ∷ Compare NotEqual ∷ Compare GreaterOrEqual
    ∷ Compare LessOrEqual ∷ Compare SignedGreater ∷ Compare SignedLess ∷ Assign Move
    ∷ Compare Greater ∷ Compare Less ∷ Compare BitTest ∷ Plus ∷ Minus ∷ Star ∷ Opening
    ∷ Closing ∷ Colon ∷ []

-- the first symbol of a list with which the text begins
unfoldable pub first_of : List Symbol → List ℕ → Option Symbol
first_of [] text = None
first_of (s ∷ ss) text = if starts_with nat_eq text (spelling s) then Some s else first_of ss text

-- the longest symbol with which the text begins
abbrev pub symbol_at : List ℕ → Option Symbol
symbol_at text = first_of symbols text
