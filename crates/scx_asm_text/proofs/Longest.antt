-- The table of symbols stands by falling length, so the first symbol that fits is the longest one.
use Rattle.std.proofs.Common.{◌≡◌, ℕ, ◌≤◌, Bool, true, false, ◌&&◌, nat_eq, nat_le, List, [], ◌∷◌, length, Option, Some, None, ◌⊎◌, inl, inr, refl, sym, ap, subst, ◌∙◌, arith}
use Rattle.std.proofs.lemmas.Bool.{leb-true}
use Rattle.std.specs.List.{starts_with}
use Rattle.scx_isa_semantics.specs.declared.operations.Operation.TheVariants.{Add, Subtract, Multiply, Divide, SignedDivide, Or, And, Xor, ShiftLeft, ShiftRight, ShiftRightSigned, Modulo, SignedModulo, Move}
use Rattle.scx_isa_semantics.specs.declared.operations.Comparison.TheVariants.{Equal, Greater, GreaterOrEqual, BitTest, NotEqual, SignedGreater, SignedGreaterOrEqual, Less, LessOrEqual, SignedLess, SignedLessOrEqual}
use Rattle.scx_asm_text.specs.declared.symbols.Symbol.{Symbol}
use Rattle.scx_asm_text.specs.declared.symbols.Symbol.TheVariants.{Assign, Compare, Plus, Minus, Star, Opening, Closing, Colon}
use Rattle.scx_asm_text.specs.Symbols.{spelling, symbols, first_of, symbol_at}

Among : Symbol → List Symbol → Type 0
Among s [] = ⊥
Among s (x ∷ xs) = (s ≡ x) ⊎ Among s xs

-- each symbol is at most as long as the one before it, and the first at most so long
falling : ℕ → List Symbol → Bool
falling n [] = true
falling n (x ∷ xs) = nat_le (length (spelling x)) n && falling (length (spelling x)) xs

all_fall : falling 4 symbols ≡ true
unfolding falling
all_fall = refl

every : (s : Symbol) → Among s symbols
unfolding Among
every (Assign Add) = inr (inr (inr (inr (inr (inr (inr (inl refl)))))))
every (Assign Subtract) = inr (inr (inr (inr (inr (inr (inr (inr (inl refl))))))))
every (Assign Multiply) = inr (inr (inr (inr (inr (inr (inr (inr (inr (inl refl)))))))))
every (Assign Divide) = inr (inr (inr (inr (inr (inr (inr (inr (inr (inr (inl refl))))))))))
every (Assign SignedDivide) = inr (inl refl)
every (Assign Or) = inr (inr (inr (inr (inr (inr (inr (inr (inr (inr (inr (inl refl)))))))))))
every (Assign And) = inr (inr (inr (inr (inr (inr (inr (inr (inr (inr (inr (inr (inl refl))))))))))))
every (Assign Xor) = inr (inr (inr (inr (inr (inr (inr (inr (inr (inr (inr (inr (inr (inl refl)))))))))))))
every (Assign ShiftLeft) = inr (inr (inr (inl refl)))
every (Assign ShiftRight) = inr (inr (inr (inr (inl refl))))
every (Assign ShiftRightSigned) = inl refl
every (Assign Modulo) = inr (inr (inr (inr (inr (inr (inr (inr (inr (inr (inr (inr (inr (inr (inl refl))))))))))))))
every (Assign SignedModulo) = inr (inr (inl refl))
every (Assign Move) = inr (inr (inr (inr (inr (inr (inr (inr (inr (inr (inr (inr (inr (inr (inr (inr (inr (inr (inr (inr (inr (inl refl)))))))))))))))))))))
every (Compare Equal) = inr (inr (inr (inr (inr (inr (inr (inr (inr (inr (inr (inr (inr (inr (inr (inl refl)))))))))))))))
every (Compare Greater) = inr (inr (inr (inr (inr (inr (inr (inr (inr (inr (inr (inr (inr (inr (inr (inr (inr (inr (inr (inr (inr (inr (inl refl))))))))))))))))))))))
every (Compare GreaterOrEqual) = inr (inr (inr (inr (inr (inr (inr (inr (inr (inr (inr (inr (inr (inr (inr (inr (inr (inl refl)))))))))))))))))
every (Compare BitTest) = inr (inr (inr (inr (inr (inr (inr (inr (inr (inr (inr (inr (inr (inr (inr (inr (inr (inr (inr (inr (inr (inr (inr (inr (inl refl))))))))))))))))))))))))
every (Compare NotEqual) = inr (inr (inr (inr (inr (inr (inr (inr (inr (inr (inr (inr (inr (inr (inr (inr (inl refl))))))))))))))))
every (Compare SignedGreater) = inr (inr (inr (inr (inr (inr (inr (inr (inr (inr (inr (inr (inr (inr (inr (inr (inr (inr (inr (inl refl)))))))))))))))))))
every (Compare SignedGreaterOrEqual) = inr (inr (inr (inr (inr (inl refl)))))
every (Compare Less) = inr (inr (inr (inr (inr (inr (inr (inr (inr (inr (inr (inr (inr (inr (inr (inr (inr (inr (inr (inr (inr (inr (inr (inl refl)))))))))))))))))))))))
every (Compare LessOrEqual) = inr (inr (inr (inr (inr (inr (inr (inr (inr (inr (inr (inr (inr (inr (inr (inr (inr (inr (inl refl))))))))))))))))))
every (Compare SignedLess) = inr (inr (inr (inr (inr (inr (inr (inr (inr (inr (inr (inr (inr (inr (inr (inr (inr (inr (inr (inr (inl refl))))))))))))))))))))
every (Compare SignedLessOrEqual) = inr (inr (inr (inr (inr (inr (inl refl))))))
every Plus = inr (inr (inr (inr (inr (inr (inr (inr (inr (inr (inr (inr (inr (inr (inr (inr (inr (inr (inr (inr (inr (inr (inr (inr (inr (inl refl)))))))))))))))))))))))))
every Minus = inr (inr (inr (inr (inr (inr (inr (inr (inr (inr (inr (inr (inr (inr (inr (inr (inr (inr (inr (inr (inr (inr (inr (inr (inr (inr (inl refl))))))))))))))))))))))))))
every Star = inr (inr (inr (inr (inr (inr (inr (inr (inr (inr (inr (inr (inr (inr (inr (inr (inr (inr (inr (inr (inr (inr (inr (inr (inr (inr (inr (inl refl)))))))))))))))))))))))))))
every Opening = inr (inr (inr (inr (inr (inr (inr (inr (inr (inr (inr (inr (inr (inr (inr (inr (inr (inr (inr (inr (inr (inr (inr (inr (inr (inr (inr (inr (inl refl))))))))))))))))))))))))))))
every Closing = inr (inr (inr (inr (inr (inr (inr (inr (inr (inr (inr (inr (inr (inr (inr (inr (inr (inr (inr (inr (inr (inr (inr (inr (inr (inr (inr (inr (inr (inl refl)))))))))))))))))))))))))))))
every Colon = inr (inr (inr (inr (inr (inr (inr (inr (inr (inr (inr (inr (inr (inr (inr (inr (inr (inr (inr (inr (inr (inr (inr (inr (inr (inr (inr (inr (inr (inr (inl refl))))))))))))))))))))))))))))))

and_true : (a b : Bool) → (a && b) ≡ true → (a ≡ true) × (b ≡ true)
and_true true b e = (refl, e)
and_true false b e = absurd (cc)

within : (n : ℕ) (ss : List Symbol) (t : Symbol) → falling n ss ≡ true → Among t ss → length (spelling t) ≤ n
unfolding Among falling
within n [] t h m = absurd m
within n (x ∷ xs) t h (inl e) =
    let p = and_true (nat_le (length (spelling x)) n) (falling (length (spelling x)) xs) h in
    let le = leb-true _ _ p.0 in
    omega (arith, ap (λ (s : Symbol). length (spelling s)) e)
within n (x ∷ xs) t h (inr m) =
    let p = and_true (nat_le (length (spelling x)) n) (falling (length (spelling x)) xs) h in
    let le = leb-true _ _ p.0 in
    let rest = within (length (spelling x)) xs t p.1 m in
    omega arith

first_is_longest : (n : ℕ) (ss : List Symbol) (text : List ℕ) (s t : Symbol) → falling n ss ≡ true → Among t ss → first_of ss text ≡ Some s → starts_with nat_eq text (spelling t) ≡ true → length (spelling t) ≤ length (spelling s)
unfolding Among falling first_of
first_is_longest n [] text s t h m e fits = absurd m
first_is_longest n (x ∷ xs) text s t h m e fits =
    let p = and_true (nat_le (length (spelling x)) n) (falling (length (spelling x)) xs) h in
    go p.1 (starts_with nat_eq text (spelling x)) refl m (λ q f. first_is_longest (length (spelling x)) xs text s t p.1 q f fits)
  where
    behind : falling (length (spelling x)) xs ≡ true → (t ≡ x) ⊎ Among t xs → length (spelling t) ≤ length (spelling x)
    behind f (inl q) = omega (arith, ap (λ (s : Symbol). length (spelling s)) q)
    behind f (inr q) = within (length (spelling x)) xs t f q

    go : falling (length (spelling x)) xs ≡ true → (b : Bool) → starts_with nat_eq text (spelling x) ≡ b → (t ≡ x) ⊎ Among t xs → (Among t xs → first_of xs text ≡ Some s → length (spelling t) ≤ length (spelling s)) → length (spelling t) ≤ length (spelling s)
    go f true y m later =
        let one : Some x ≡ Some s = rw y at e in
        let same : x ≡ s = cc in
        subst (λ (s : Symbol). length (spelling t) ≤ length (spelling s)) same (behind f m)
    go f false y (inl q) later = let bad : false ≡ true = sym y ∙ (ap (λ (s : Symbol). starts_with nat_eq text (spelling s)) (sym q) ∙ fits) in absurd (cc)
    go f false y (inr q) later = later q (rw y at e)

-- no symbol is longer with which the text begins
pub longest : (text : List ℕ) (s t : Symbol) → symbol_at text ≡ Some s → starts_with nat_eq text (spelling t) ≡ true → length (spelling t) ≤ length (spelling s)
longest text s t = first_is_longest 4 symbols text s t all_fall (every t)

abbrev no_symbol : Option Symbol
no_symbol = None

none_begins : (ss : List Symbol) (text : List ℕ) (t : Symbol) → Among t ss → first_of ss text ≡ None → starts_with nat_eq text (spelling t) ≡ false
unfolding Among first_of
none_begins [] text t m e = absurd m
none_begins (x ∷ xs) text t m e = go (starts_with nat_eq text (spelling x)) refl m (λ q h. none_begins xs text t q h)
  where
    go : (b : Bool) → starts_with nat_eq text (spelling x) ≡ b → (t ≡ x) ⊎ Among t xs → (Among t xs → first_of xs text ≡ None → starts_with nat_eq text (spelling t) ≡ false) → starts_with nat_eq text (spelling t) ≡ false
    go true y m later = let bad : Some x ≡ no_symbol = rw y at e in absurd (cc)
    go false y (inl q) later = ap (λ (s : Symbol). starts_with nat_eq text (spelling s)) q ∙ y
    go false y (inr q) later = later q (rw y at e)

-- where no symbol is read, the text begins with none
pub no_begin : (text : List ℕ) (t : Symbol) → symbol_at text ≡ None → starts_with nat_eq text (spelling t) ≡ false
no_begin text t e = none_begins symbols text t (every t) e
