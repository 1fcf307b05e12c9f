-- The search for a symbol, as a loop goes over the table.
use Rattle.std.proofs.Common.{◌≡◌, ℕ, ◌+◌, ◌<◌, ◌≤◌, Bool, true, false, nat_eq, lit<, List, [], ◌∷◌, length, take, drop, get_or, ap, length-take, Some, None, refl, arith}
use Rattle.std.specs.List.{starts_with}
use Rattle.std.proofs.lemmas.List.{drop_more, drop_all}
use Rattle.scx_isa_semantics.specs.declared.operations.Operation.TheVariants.{Add, Subtract, Multiply, Divide, SignedDivide, Or, And, Xor, ShiftLeft, ShiftRight, ShiftRightSigned, Modulo, SignedModulo, Move}
use Rattle.scx_isa_semantics.specs.declared.operations.Comparison.TheVariants.{Equal, Greater, GreaterOrEqual, BitTest, NotEqual, SignedGreater, SignedGreaterOrEqual, Less, LessOrEqual, SignedLess, SignedLessOrEqual}
use Rattle.scx_asm_text.specs.declared.symbols.Symbol.{Symbol}
use Rattle.scx_asm_text.specs.declared.symbols.Symbol.TheVariants.{Assign, Compare, Plus, Minus, Star, Opening, Closing, Colon}
use Rattle.std.proofs.lemmas.Slice.Eq.{bytes_eq-Decides}
use Rattle.scx_asm_text.specs.Symbols.{spelling, symbols, first_of, symbol_at}

-- the text begins with this one
pub first_here : (ss : List Symbol) (i : ℕ) (text : List ℕ) → i < length ss → starts_with nat_eq text (spelling (get_or ss i (Assign Add))) ≡ true → first_of (drop i ss) text ≡ Some (get_or ss i (Assign Add))
unfolding first_of
first_here ss i text lt e = rw (drop_more ss i (Assign Add) lt, e) refl

-- it doesn't, and may begin with a later one
pub first_later : (ss : List Symbol) (i : ℕ) (text : List ℕ) → i < length ss → starts_with nat_eq text (spelling (get_or ss i (Assign Add))) ≡ false → first_of (drop i ss) text ≡ first_of (drop (i + 1) ss) text
unfolding first_of
first_later ss i text lt e = rw (drop_more ss i (Assign Add) lt, e) refl

-- past the last one it begins with none
pub first_none : (ss : List Symbol) (i : ℕ) (text : List ℕ) → length ss ≤ i → first_of (drop i ss) text ≡ None
unfolding first_of
first_none ss i text le = rw (drop_all i ss le) refl

-- ---- a symbol that is found

-- no symbol is empty
pub spelled_positive : (s : Symbol) → 0 < length (spelling s)
spelled_positive (Assign Add) = lit< tt
spelled_positive (Assign Subtract) = lit< tt
spelled_positive (Assign Multiply) = lit< tt
spelled_positive (Assign Divide) = lit< tt
spelled_positive (Assign SignedDivide) = lit< tt
spelled_positive (Assign Or) = lit< tt
spelled_positive (Assign And) = lit< tt
spelled_positive (Assign Xor) = lit< tt
spelled_positive (Assign ShiftLeft) = lit< tt
spelled_positive (Assign ShiftRight) = lit< tt
spelled_positive (Assign ShiftRightSigned) = lit< tt
spelled_positive (Assign Modulo) = lit< tt
spelled_positive (Assign SignedModulo) = lit< tt
spelled_positive (Assign Move) = lit< tt
spelled_positive (Compare Equal) = lit< tt
spelled_positive (Compare Greater) = lit< tt
spelled_positive (Compare GreaterOrEqual) = lit< tt
spelled_positive (Compare BitTest) = lit< tt
spelled_positive (Compare NotEqual) = lit< tt
spelled_positive (Compare SignedGreater) = lit< tt
spelled_positive (Compare SignedGreaterOrEqual) = lit< tt
spelled_positive (Compare Less) = lit< tt
spelled_positive (Compare LessOrEqual) = lit< tt
spelled_positive (Compare SignedLess) = lit< tt
spelled_positive (Compare SignedLessOrEqual) = lit< tt
spelled_positive Plus = lit< tt
spelled_positive Minus = lit< tt
spelled_positive Star = lit< tt
spelled_positive Opening = lit< tt
spelled_positive Closing = lit< tt
spelled_positive Colon = lit< tt

-- the text begins with the one that is found
pub found : (ss : List Symbol) (text : List ℕ) (s : Symbol) → first_of ss text ≡ Some s → starts_with nat_eq text (spelling s) ≡ true
unfolding first_of
found [] text s e = absurd (cc)
found (x ∷ ss) text s e = go (starts_with nat_eq text (spelling x)) refl (λ h. found ss text s h)
  where
    go : (b : Bool) → starts_with nat_eq text (spelling x) ≡ b → (first_of ss text ≡ Some s → starts_with nat_eq text (spelling s) ≡ true) → starts_with nat_eq text (spelling s) ≡ true
    go true t later = let one : Some x ≡ Some s = rw t at e in let same : x ≡ s = cc in rw (← same) t
    go false t later = later (rw t at e)

-- which is no longer than the text
pub symbol_within : (text : List ℕ) (s : Symbol) → symbol_at text ≡ Some s → length (spelling s) ≤ length text
symbol_within text s e =
    let n = length (spelling s) in
    let same : spelling s ≡ take n text = (bytes_eq-Decides (spelling s) (take n text)).0 (found symbols text s e) in
    omega (arith, ap length same, length-take n text)
