-- The canonical text is read back token by token: each symbol, word and number ends where what stands behind
-- it can't go on with it.
use Rattle.std.proofs.Common.{◌≡◌, ℕ, suc, ◌+◌, ◌-◌, ◌^◌, ◌<◌, ◌≤◌, Bool, true, false, not, ◌&&◌, nat_eq, List, [], ◌∷◌, ◌++◌, length, take, Option, Some, None, refl, ap, subst, ◌∙◌, arith}
use Rattle.std.proofs.lemmas.Bool.Decides.{nat_tests}
use Rattle.std.proofs.lemmas.Bool.{eqb-true, ne_eqb, lt-ltb}
use Rattle.std.proofs.lemmas.Fmt.{decimal_is_IsNumeral}
use Rattle.std.proofs.lemmas.Str.Parse.{tells_digits}
use Rattle.std.proofs.Math.Seq.{drop-append_seam, take-append_seam}
use Rattle.std.specs.Char.{is_ascii_digit, is_ascii_alphabetic}
use Rattle.std.specs.Fmt.{decimal}
use Rattle.std.specs.Int.{IsInRange}
use Rattle.std.specs.Str.Parse.{AllDigits, digits_value}
use Rattle.scx_isa_semantics.specs.declared.operations.Operation.TheVariants.{Add, Subtract, Multiply, Divide, SignedDivide, Or, And, Xor, ShiftLeft, ShiftRight, ShiftRightSigned, Modulo, SignedModulo, Move}
use Rattle.scx_isa_semantics.specs.declared.operations.Comparison.TheVariants.{Equal, Greater, GreaterOrEqual, BitTest, NotEqual, SignedGreater, SignedGreaterOrEqual, Less, LessOrEqual, SignedLess, SignedLessOrEqual}
use Rattle.scx_asm_text.specs.declared.symbols.Symbol.{Symbol}
use Rattle.scx_asm_text.specs.declared.symbols.Symbol.TheVariants.{Assign, Compare, Plus, Minus, Star, Opening, Closing, Colon}
use Rattle.scx_asm_text.specs.declared.lexer.Class.TheVariants as class
use Rattle.scx_asm_text.specs.Symbols.{spelling, first_of, symbol_at}
use Rattle.scx_asm_text.specs.Tokens.{Lexeme, Word, Number, Mark, is_blank, is_word, class_length, if_64_bits, is_hexadecimal, number_lexeme, token_at, followed_by, tokens_from}
use Rattle.scx_asm_text.proofs.Search.{spelled_positive}
use Rattle.scx_asm_text.proofs.Lexing.{passed}

-- ---- what can stand behind a symbol, and behind a word or number

-- no symbol goes on with another byte than `<`, `=` and `>`
abbrev pub ends_symbol : List ℕ → Bool
ends_symbol [] = true
ends_symbol (b ∷ bs) = not (nat_eq 60 b) && (not (nat_eq 61 b) && not (nat_eq 62 b))

abbrev pub ends_word : List ℕ → Bool
ends_word [] = true
ends_word (b ∷ bs) = not (is_word b)

not_true : (b : Bool) → not b ≡ true → b ≡ false
not_true true e = absurd (cc)
not_true false e = refl

-- both are true where both together are
pub and_true : (a b : Bool) → (a && b) ≡ true → (a ≡ true) × (b ≡ true)
and_true true b e = (refl, e)
and_true false b e = absurd (cc)

-- no word goes on past its end
pub run_none : (rest : List ℕ) → ends_word rest ≡ true → class_length class.Word rest ≡ 0
unfolding class_length
run_none [] e = refl
run_none (b ∷ bs) e = rw (not_true (is_word b) e) refl

-- ---- one token

abbrev no_token : Option (Lexeme × ℕ)
no_token = None

unmarked : (near : Bool) (b : ℕ) (bs : List ℕ) (t : Lexeme × ℕ) → token_at near (b ∷ bs) ≡ Some t → nat_eq b 35 ≡ false
unfolding first_of
unmarked near b bs t e = go (nat_eq b 35) refl
  where
    go : (x : Bool) → nat_eq b 35 ≡ x → nat_eq b 35 ≡ false
    go false h = h
    go true h =
        let bad : no_token ≡ Some t = subst (λ (b : ℕ). token_at near (b ∷ bs) ≡ Some t) (eqb-true _ _ h) e in
        absurd (cc)

dark : (near : Bool) (b : ℕ) (bs : List ℕ) (t : Lexeme × ℕ) → token_at near (b ∷ bs) ≡ Some t → is_blank b ≡ false
unfolding first_of
dark near b bs t e = go (nat_eq b 32) (nat_eq b 9) refl refl
  where
    go : (x y : Bool) → nat_eq b 32 ≡ x → nat_eq b 9 ≡ y → is_blank b ≡ false
    go false false h k = rw (h, k) refl
    go true y h k =
        let bad : no_token ≡ Some t = subst (λ (b : ℕ). token_at near (b ∷ bs) ≡ Some t) (eqb-true _ _ h) e in
        absurd (cc)
    go false true h k =
        let bad : no_token ≡ Some t = subst (λ (b : ℕ). token_at near (b ∷ bs) ≡ Some t) (eqb-true _ _ k) e in
        absurd (cc)

-- a token at the front is read, and then what stands behind it
pub token_read : (near : Bool) (x rest : List ℕ) (t : Lexeme) → 0 < length x → token_at near (x ++ rest) ≡ Some (t, length x) → tokens_from near 0 (x ++ rest) ≡ followed_by t (tokens_from true 0 rest)
unfolding tokens_from
token_read near [] rest t some e = absurd (omega arith)
token_read near (b ∷ bs) rest t some e =
    let steps : length (b ∷ bs) - 1 ≡ length bs = omega arith in
    let behind : tokens_from true (length (b ∷ bs) - 1) (bs ++ rest) ≡ tokens_from true 0 rest =
    rw (steps, passed true (length bs) (bs ++ rest), drop-append_seam bs rest) refl in
    rw (unmarked near b (bs ++ rest) (t, length (b ∷ bs)) e, dark near b (bs ++ rest) (t, length (b ∷ bs)) e, e) (ap (λ (x : Option (List Lexeme)). followed_by t x) behind)

-- ---- symbols

symbol_last : (s : Symbol) → symbol_at (spelling s ++ []) ≡ Some s
unfolding first_of
symbol_last (Assign Add) = refl
symbol_last (Assign Subtract) = refl
symbol_last (Assign Multiply) = refl
symbol_last (Assign Divide) = refl
symbol_last (Assign SignedDivide) = refl
symbol_last (Assign Or) = refl
symbol_last (Assign And) = refl
symbol_last (Assign Xor) = refl
symbol_last (Assign ShiftLeft) = refl
symbol_last (Assign ShiftRight) = refl
symbol_last (Assign ShiftRightSigned) = refl
symbol_last (Assign Modulo) = refl
symbol_last (Assign SignedModulo) = refl
symbol_last (Assign Move) = refl
symbol_last (Compare Equal) = refl
symbol_last (Compare Greater) = refl
symbol_last (Compare GreaterOrEqual) = refl
symbol_last (Compare BitTest) = refl
symbol_last (Compare NotEqual) = refl
symbol_last (Compare SignedGreater) = refl
symbol_last (Compare SignedGreaterOrEqual) = refl
symbol_last (Compare Less) = refl
symbol_last (Compare LessOrEqual) = refl
symbol_last (Compare SignedLess) = refl
symbol_last (Compare SignedLessOrEqual) = refl
symbol_last Plus = refl
symbol_last Minus = refl
symbol_last Star = refl
symbol_last Opening = refl
symbol_last Closing = refl
symbol_last Colon = refl

symbol_here : (s : Symbol) (b : ℕ) (bs : List ℕ) → nat_eq 60 b ≡ false → nat_eq 61 b ≡ false → nat_eq 62 b ≡ false → symbol_at (spelling s ++ b ∷ bs) ≡ Some s
unfolding first_of
symbol_here (Assign Add) b bs x y z = refl
symbol_here (Assign Subtract) b bs x y z = refl
symbol_here (Assign Multiply) b bs x y z = refl
symbol_here (Assign Divide) b bs x y z = refl
symbol_here (Assign SignedDivide) b bs x y z = refl
symbol_here (Assign Or) b bs x y z = refl
symbol_here (Assign And) b bs x y z = refl
symbol_here (Assign Xor) b bs x y z = refl
symbol_here (Assign ShiftLeft) b bs x y z = refl
symbol_here (Assign ShiftRight) b bs x y z = refl
symbol_here (Assign ShiftRightSigned) b bs x y z = refl
symbol_here (Assign Modulo) b bs x y z = refl
symbol_here (Assign SignedModulo) b bs x y z = refl
symbol_here (Assign Move) b bs x y z = simp y refl
symbol_here (Compare Equal) b bs x y z = refl
symbol_here (Compare Greater) b bs x y z = simp (y, z) refl
symbol_here (Compare GreaterOrEqual) b bs x y z = refl
symbol_here (Compare BitTest) b bs x y z = simp y refl
symbol_here (Compare NotEqual) b bs x y z = refl
symbol_here (Compare SignedGreater) b bs x y z = simp (y, z) refl
symbol_here (Compare SignedGreaterOrEqual) b bs x y z = refl
symbol_here (Compare Less) b bs x y z = simp (x, y) refl
symbol_here (Compare LessOrEqual) b bs x y z = refl
symbol_here (Compare SignedLess) b bs x y z = simp y refl
symbol_here (Compare SignedLessOrEqual) b bs x y z = refl
symbol_here Plus b bs x y z = simp y refl
symbol_here Minus b bs x y z = simp y refl
symbol_here Star b bs x y z = simp y refl
symbol_here Opening b bs x y z = refl
symbol_here Closing b bs x y z = refl
symbol_here Colon b bs x y z = refl

-- a symbol
pub symbol_read : (near : Bool) (s : Symbol) (rest : List ℕ) → ends_symbol rest ≡ true → tokens_from near 0 (spelling s ++ rest) ≡ followed_by (Mark s) (tokens_from true 0 rest)
symbol_read near s [] e = token_read near (spelling s) [] (Mark s) (spelled_positive s) (rw (symbol_last s) refl)
symbol_read near s (b ∷ bs) e =
    let first = and_true (not (nat_eq 60 b)) (not (nat_eq 61 b) && not (nat_eq 62 b)) e in
    let others = and_true (not (nat_eq 61 b)) (not (nat_eq 62 b)) first.1 in
    let here = symbol_here s b bs (not_true _ first.0) (not_true _ others.0) (not_true _ others.1) in
    token_read near (spelling s) (b ∷ bs) (Mark s) (spelled_positive s) (rw here refl)

-- ---- numbers

digit_apart : (d k : ℕ) → IsInRange 48 57 d → (48 ≤ k → k ≤ 57 → ⊥) → nat_eq k d ≡ false
digit_apart d k h far = ne_eqb k d (λ e. far (omega (arith, h.0)) (omega (arith, h.1)))

abbrev no_symbol : Option Symbol
no_symbol = None

digit_no_symbol : (d : ℕ) (rest : List ℕ) → IsInRange 48 57 d → symbol_at (d ∷ rest) ≡ None
unfolding first_of
digit_no_symbol d rest h =
    let low = h.0 in
    let high = h.1 in
    let e115 : nat_eq 115 d ≡ false = ne_eqb 115 d (λ e. omega arith) in
    let e60 : nat_eq 60 d ≡ false = ne_eqb 60 d (λ e. omega arith) in
    let e62 : nat_eq 62 d ≡ false = ne_eqb 62 d (λ e. omega arith) in
    let e43 : nat_eq 43 d ≡ false = ne_eqb 43 d (λ e. omega arith) in
    let e45 : nat_eq 45 d ≡ false = ne_eqb 45 d (λ e. omega arith) in
    let e42 : nat_eq 42 d ≡ false = ne_eqb 42 d (λ e. omega arith) in
    let e47 : nat_eq 47 d ≡ false = ne_eqb 47 d (λ e. omega arith) in
    let e124 : nat_eq 124 d ≡ false = ne_eqb 124 d (λ e. omega arith) in
    let e38 : nat_eq 38 d ≡ false = ne_eqb 38 d (λ e. omega arith) in
    let e94 : nat_eq 94 d ≡ false = ne_eqb 94 d (λ e. omega arith) in
    let e37 : nat_eq 37 d ≡ false = ne_eqb 37 d (λ e. omega arith) in
    let e61 : nat_eq 61 d ≡ false = ne_eqb 61 d (λ e. omega arith) in
    let e33 : nat_eq 33 d ≡ false = ne_eqb 33 d (λ e. omega arith) in
    let e40 : nat_eq 40 d ≡ false = ne_eqb 40 d (λ e. omega arith) in
    let e41 : nat_eq 41 d ≡ false = ne_eqb 41 d (λ e. omega arith) in
    let e58 : nat_eq 58 d ≡ false = ne_eqb 58 d (λ e. omega arith) in
    simp (e115, e60, e62, e43, e45, e42, e47, e124, e38, e94, e37, e61, e33, e40, e41, e58) (refl {a = no_symbol})

is_digit : (d : ℕ) → IsInRange 48 57 d → is_ascii_digit d ≡ true
is_digit d h = let low = h.0 in let high = h.1 in grind (arith, nat_tests)

no_letter : (d : ℕ) → IsInRange 48 57 d → is_ascii_alphabetic d ≡ false
no_letter d h = let low = h.0 in let high = h.1 in grind (arith, nat_tests)

no_more_digits : (rest : List ℕ) → ends_word rest ≡ true → class_length class.Decimal rest ≡ 0
unfolding class_length
no_more_digits [] e = refl
no_more_digits (b ∷ bs) e =
    let words : is_word b ≡ false = not_true (is_word b) e in
    rw (digit_of_word b words) refl
  where
    digit_of_word : (b : ℕ) → is_word b ≡ false → is_ascii_digit b ≡ false
    digit_of_word b w = go (is_ascii_alphabetic b) (is_ascii_digit b) refl refl
      where
        go : (x y : Bool) → is_ascii_alphabetic b ≡ x → is_ascii_digit b ≡ y → is_ascii_digit b ≡ false
        go x false h k = k
        go true true h k = let bad : true ≡ false = rw h at w in absurd (cc)
        go false true h k = let bad : true ≡ false = rw (h, k) at w in absurd (cc)

run_digits : (ds rest : List ℕ) → AllDigits 10 ds → ends_word rest ≡ true → class_length class.Decimal (ds ++ rest) ≡ length ds
unfolding class_length
run_digits [] rest h e = no_more_digits rest e
run_digits (d ∷ ds) rest h e =
    let parts = tells_digits.parts d ds h in
    rw (is_digit d parts.0) (ap suc (run_digits ds rest parts.1 e))

-- no `x` stands behind the first digit
no_x : (b : ℕ) (bs : List ℕ) → ends_word (b ∷ bs) ≡ true → nat_eq b 120 ≡ false
no_x b bs e = go (nat_eq b 120) refl
  where
    go : (x : Bool) → nat_eq b 120 ≡ x → nat_eq b 120 ≡ false
    go false h = h
    go true h = let bad : false ≡ true = subst (λ (b : ℕ). not (is_word b) ≡ true) (eqb-true _ _ h) e in absurd (cc)

and_none : (a b c : Bool) → b ≡ false → ((a && b) && c) ≡ false
and_none true b c e = rw e refl
and_none false b c e = refl

no_hexadecimal : (d : ℕ) (ds rest : List ℕ) → AllDigits 10 ds → ends_word rest ≡ true → is_hexadecimal (d ∷ (ds ++ rest)) ≡ false
no_hexadecimal d [] [] h e = and_none (nat_eq d 48) false _ refl
no_hexadecimal d [] (b ∷ bs) h e = and_none (nat_eq d 48) (nat_eq b 120) _ (no_x b bs e)
no_hexadecimal d (x ∷ ds) rest h e =
    let parts = tells_digits.parts x ds h in
    let high = parts.0.1 in
    and_none (nat_eq d 48) (nat_eq x 120) _ (ne_eqb x 120 (λ same. omega arith))

abbrev numbered : Bool → Option ℕ → ℕ → Lexeme × ℕ
numbered near x k = (Number near x, k)

number_token : (near : Bool) (n : ℕ) (ds rest : List ℕ) → 0 < length ds → AllDigits 10 ds → digits_value 10 ds ≡ n → n < 2 ^ 64 → ends_word rest ≡ true → token_at near (ds ++ rest) ≡ Some (Number near (Some n), length ds)
number_token near n [] rest some h v fits e = absurd (omega arith)
number_token near n (d ∷ ds) rest some h v fits e =
    let parts = tells_digits.parts d ds h in
    let runs = run_digits (d ∷ ds) rest h e in
    let taken : take (length (d ∷ ds)) (d ∷ (ds ++ rest)) ≡ d ∷ ds = take-append_seam (d ∷ ds) rest in
    let value : if_64_bits (digits_value 10 (d ∷ ds)) ≡ Some n = rw (v, lt-ltb _ _ fits) refl in
    let number : if_64_bits (digits_value 10 (take (length (d ∷ ds)) (d ∷ (ds ++ rest)))) ≡ Some n = ap (λ (x : List ℕ). if_64_bits (digits_value 10 x)) taken ∙ value in
    let plus : 0 + length (d ∷ ds) ≡ length (d ∷ ds) = omega arith in
    let decimal_here : number_lexeme near (d ∷ (ds ++ rest)) ≡ numbered near (if_64_bits (digits_value 10 (take (class_length class.Decimal (d ∷ (ds ++ rest))) (d ∷ (ds ++ rest))))) (0 + class_length class.Decimal (d ∷ (ds ++ rest))) =
    rw (no_hexadecimal d ds rest parts.1 e) refl in
    let counted = ap (λ (k : ℕ). numbered near (if_64_bits (digits_value 10 (take k (d ∷ (ds ++ rest))))) (0 + k)) runs in
    let read : number_lexeme near (d ∷ (ds ++ rest)) ≡ numbered near (Some n) (length (d ∷ ds)) =
    decimal_here ∙ (counted ∙ (ap (λ (x : Option ℕ). numbered near x (0 + length (d ∷ ds))) number ∙ ap (λ (k : ℕ). numbered near (Some n) k) plus)) in
    rw (digit_no_symbol d (ds ++ rest) parts.0, no_letter d parts.0, is_digit d parts.0) (ap (λ (x : Lexeme × ℕ). Some x) read)

-- a number
pub number_read : (near : Bool) (n : ℕ) (rest : List ℕ) → n < 2 ^ 64 → ends_word rest ≡ true → tokens_from near 0 (decimal n ++ rest) ≡ followed_by (Number near (Some n)) (tokens_from true 0 rest)
number_read near n rest fits e =
    let digits = decimal_is_IsNumeral n fits in
    token_read near (decimal n) rest (Number near (Some n)) digits.0.0 (number_token near n (decimal n) rest digits.0.0 digits.0.1 digits.1 fits e)

-- a number begins with a digit, which goes on with no symbol
pub digits_end_symbol : (n : ℕ) (rest : List ℕ) → n < 2 ^ 64 → ends_symbol (decimal n ++ rest) ≡ true
digits_end_symbol n rest fits = go (decimal n) (decimal_is_IsNumeral n fits).0.0 (decimal_is_IsNumeral n fits).0.1
  where
    go : (ds : List ℕ) → 0 < length ds → AllDigits 10 ds → ends_symbol (ds ++ rest) ≡ true
    go [] some h = absurd (omega arith)
    go (d ∷ ds) some h =
        let parts = tells_digits.parts d ds h in
        let high = parts.0.1 in
        let e60 : nat_eq 60 d ≡ false = ne_eqb 60 d (λ e. omega arith) in
        let e61 : nat_eq 61 d ≡ false = ne_eqb 61 d (λ e. omega arith) in
        let e62 : nat_eq 62 d ≡ false = ne_eqb 62 d (λ e. omega arith) in
        rw (e60, e61, e62) refl

-- ---- words

-- a word that is read as a word, and goes on with no symbol
pub record IsName (w : List ℕ) : Type 0 where
  pub some : 0 < length w
  pub token : (near : Bool) (rest : List ℕ) → class_length class.Word rest ≡ 0 → token_at near (w ++ rest) ≡ Some (Word w, length w)
  pub front : (rest : List ℕ) → ends_symbol (w ++ rest) ≡ true

-- a word
pub name_read : (near : Bool) (w rest : List ℕ) → IsName w → ends_word rest ≡ true → tokens_from near 0 (w ++ rest) ≡ followed_by (Word w) (tokens_from true 0 rest)
name_read near w rest h e = token_read near w rest (Word w) h.some (h.token near rest (run_none rest e))
