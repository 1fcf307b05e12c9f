-- The token that is read is the longest with which the text begins: a symbol begins with no digit, and goes on
-- from a letter with a byte that no word has.
use Rattle.std.proofs.Common.{◌≡◌, ℕ, suc, ◌+◌, ◌<◌, ◌≤◌, Bool, true, false, ◌&&◌, nat_eq, codes, List, [], ◌∷◌, ◌++◌, length, length-take, take, drop, slice_index, Option, Some, None, ◌⊎◌, inl, inr, refl, sym, ap, subst, ◌∙◌, arith, lit<}
use Rattle.std.proofs.lemmas.Bool.{eqb-true}
use Rattle.std.proofs.lemmas.Bool.Decides.{nat_tests}
use Rattle.std.proofs.lemmas.List.{take-append-drop}
use Rattle.std.proofs.lemmas.Slice.Eq.{bytes_eq-Decides}
use Rattle.std.proofs.Math.Seq.{take-append_seam}
use Rattle.std.specs.Char.{is_ascii_digit, is_ascii_alphabetic, is_ascii_hexdigit}
use Rattle.std.specs.List.{starts_with}
use Rattle.std.specs.Str.{bytes_eq}
use Rattle.std.specs.Str.Parse.{digits_value}
use Rattle.scx_isa_semantics.specs.declared.operations.Operation.TheVariants.{Add, Subtract, Multiply, Divide, SignedDivide, Or, And, Xor, ShiftLeft, ShiftRight, ShiftRightSigned, Modulo, SignedModulo, Move}
use Rattle.scx_isa_semantics.specs.declared.operations.Comparison.TheVariants.{Equal, Greater, GreaterOrEqual, BitTest, NotEqual, SignedGreater, SignedGreaterOrEqual, Less, LessOrEqual, SignedLess, SignedLessOrEqual}
use Rattle.scx_asm_text.specs.declared.symbols.Symbol.{Symbol}
use Rattle.scx_asm_text.specs.declared.symbols.Symbol.TheVariants.{Assign, Compare, Plus, Minus, Star, Opening, Closing, Colon}
use Rattle.scx_asm_text.specs.declared.lexer.Class.{Class}
use Rattle.scx_asm_text.specs.declared.lexer.Class.TheVariants as class
use Rattle.scx_asm_text.specs.Options.{either}
use Rattle.scx_asm_text.specs.Symbols.{spelling, symbols, symbol_at}
use Rattle.scx_asm_text.specs.Tokens.{Lexeme, Word, Number, Mark, is_word, is_in, class_length, if_64_bits, is_hexadecimal, digits_at, number_lexeme, word_at, word_or_number, token_at}
use Rattle.scx_asm_text.specs.Laws.{AllIn, IsWord, IsToken, IsLongest}
use Rattle.scx_asm_text.proofs.Search.{spelled_positive, found, symbol_within}
use Rattle.scx_asm_text.proofs.Longest.{longest, no_begin}

-- ---- what a symbol begins with

record Front (p : List ℕ) : Type 0 where
  pub digit : is_ascii_digit (slice_index p 0) ≡ false
  pub word : (is_ascii_alphabetic (slice_index p 0) ≡ false) ⊎ ((is_word (slice_index p 1) ≡ false) × (1 < length p))

front_of : (s : Symbol) → Front (spelling s)
front_of (Assign Add) = record { digit = refl; word = inl refl }
front_of (Assign Subtract) = record { digit = refl; word = inl refl }
front_of (Assign Multiply) = record { digit = refl; word = inl refl }
front_of (Assign Divide) = record { digit = refl; word = inl refl }
front_of (Assign SignedDivide) = record { digit = refl; word = inr (refl, lit< tt) }
front_of (Assign Or) = record { digit = refl; word = inl refl }
front_of (Assign And) = record { digit = refl; word = inl refl }
front_of (Assign Xor) = record { digit = refl; word = inl refl }
front_of (Assign ShiftLeft) = record { digit = refl; word = inl refl }
front_of (Assign ShiftRight) = record { digit = refl; word = inl refl }
front_of (Assign ShiftRightSigned) = record { digit = refl; word = inr (refl, lit< tt) }
front_of (Assign Modulo) = record { digit = refl; word = inl refl }
front_of (Assign SignedModulo) = record { digit = refl; word = inr (refl, lit< tt) }
front_of (Assign Move) = record { digit = refl; word = inl refl }
front_of (Compare Equal) = record { digit = refl; word = inl refl }
front_of (Compare Greater) = record { digit = refl; word = inl refl }
front_of (Compare GreaterOrEqual) = record { digit = refl; word = inl refl }
front_of (Compare BitTest) = record { digit = refl; word = inl refl }
front_of (Compare NotEqual) = record { digit = refl; word = inl refl }
front_of (Compare SignedGreater) = record { digit = refl; word = inr (refl, lit< tt) }
front_of (Compare SignedGreaterOrEqual) = record { digit = refl; word = inr (refl, lit< tt) }
front_of (Compare Less) = record { digit = refl; word = inl refl }
front_of (Compare LessOrEqual) = record { digit = refl; word = inl refl }
front_of (Compare SignedLess) = record { digit = refl; word = inr (refl, lit< tt) }
front_of (Compare SignedLessOrEqual) = record { digit = refl; word = inr (refl, lit< tt) }
front_of Plus = record { digit = refl; word = inl refl }
front_of Minus = record { digit = refl; word = inl refl }
front_of Star = record { digit = refl; word = inl refl }
front_of Opening = record { digit = refl; word = inl refl }
front_of Closing = record { digit = refl; word = inl refl }
front_of Colon = record { digit = refl; word = inl refl }

no : {A : Type 0} → true ≡ false → A
no e = absurd (cc)

-- a text that begins with a symbol begins with no number
no_digit : (p front rest behind : List ℕ) → Front p → 0 < length p → 0 < length front → front ++ rest ≡ p ++ behind → is_ascii_digit (slice_index front 0) ≡ true → ⊥
no_digit [] front rest behind f some more e h = absurd (omega arith)
no_digit (q ∷ qs) [] rest behind f some more e h = absurd (omega arith)
no_digit (q ∷ qs) (b ∷ bs) rest behind f some more e h =
    let same : b ≡ q = cc in
    no (sym h ∙ (ap (λ (c : ℕ). is_ascii_digit c) same ∙ f.digit))

-- and with no word that is longer
no_longer : (p front rest behind : List ℕ) → Front p → 0 < length p → front ++ rest ≡ p ++ behind → IsWord front → length front ≤ length p
no_longer [] front rest behind f some e w = absurd (omega arith)
no_longer (q ∷ qs) [] rest behind f some e w = absurd w
no_longer (q ∷ qs) (b ∷ []) rest behind f some e w = omega arith
no_longer (q ∷ qs) (b ∷ c ∷ bs) rest behind f some e w = go qs e f.word
  where
    go : (qs : List ℕ) → b ∷ c ∷ (bs ++ rest) ≡ q ∷ (qs ++ behind) → (is_ascii_alphabetic q ≡ false) ⊎ ((is_word (slice_index (q ∷ qs) 1) ≡ false) × (1 < length (q ∷ qs))) → length (b ∷ c ∷ bs) ≤ length (q ∷ qs)
    go qs e (inl h) = let same : b ≡ q = cc in no (sym w.0 ∙ (ap (λ (c : ℕ). is_ascii_alphabetic c) same ∙ h))
    go [] e (inr h) = absurd (omega (arith, h.1))
    go (r ∷ qs) e (inr h) = let same : c ≡ r = cc in no (sym w.1.0 ∙ (ap (λ (c : ℕ). is_word c) same ∙ h.0))

same_bytes : (p : List ℕ) → bytes_eq p p ≡ true
same_bytes p = (bytes_eq-Decides p p).1 refl

begins : (p rest : List ℕ) → starts_with nat_eq (p ++ rest) p ≡ true
begins p rest = rw (take-append_seam p rest) (same_bytes p)

begins_with : (text p rest : List ℕ) → text ≡ p ++ rest → starts_with nat_eq text p ≡ true
begins_with text p rest e = subst (λ (text : List ℕ). starts_with nat_eq text p ≡ true) (sym e) (begins p rest)

-- ---- runs

run_least : (c : Class) (x rest : List ℕ) → AllIn c x → length x ≤ class_length c (x ++ rest)
unfolding class_length
run_least c [] rest h = omega arith
run_least c (b ∷ bs) rest h = rw h.0 (omega (arith, run_least c bs rest h.1))

run_in : (c : Class) (text : List ℕ) → AllIn c (take (class_length c text) text)
unfolding class_length
run_in c [] = tt
run_in c (b ∷ bs) = go (is_in c b) refl (run_in c bs)
  where
    go : (t : Bool) → is_in c b ≡ t → AllIn c (take (class_length c bs) bs) → AllIn c (take (class_length c (b ∷ bs)) (b ∷ bs))
    go true h rest = rw h (h, rest)
    go false h rest = rw h tt

run_most : (c : Class) (text : List ℕ) → class_length c text ≤ length text
unfolding class_length
run_most c [] = omega arith
run_most c (b ∷ bs) = go (is_in c b) refl (run_most c bs)
  where
    go : (t : Bool) → is_in c b ≡ t → class_length c bs ≤ length bs → class_length c (b ∷ bs) ≤ length (b ∷ bs)
    go true h rest = rw h (omega arith)
    go false h rest = rw h (omega arith)

-- ---- texts that begin with a symbol

marked : (near : Bool) (text : List ℕ) (s : Symbol) → symbol_at text ≡ Some s → IsLongest text (Some (Mark s, length (spelling s)))
marked near text s e = (symbol_within text s e, sym same, least)
  where
    n : ℕ
    n = length (spelling s)

    same : spelling s ≡ take n text
    same = (bytes_eq-Decides (spelling s) (take n text)).0 (found symbols text s e)

    split : text ≡ spelling s ++ drop n text
    split = sym (take-append-drop n text) ∙ ap (λ (x : List ℕ). x ++ drop n text) (sym same)

    least : (t : Lexeme) (front rest : List ℕ) → text ≡ front ++ rest → IsToken t front → length front ≤ n
    least (Mark u) front rest h is =
        let e1 : text ≡ spelling u ++ rest = h ∙ ap (λ (x : List ℕ). x ++ rest) is in
        omega (arith, longest text s u e (begins_with text (spelling u) rest e1), ap length is)
    least (Word w) front rest h is = no_longer (spelling s) front rest (drop n text) (front_of s) (spelled_positive s) (sym h ∙ split) is.1
    least (Number touches value) [] rest h is = omega arith
    least (Number touches value) (b ∷ bs) rest h (inl is) = absurd (no_digit (spelling s) (b ∷ bs) rest (drop n text) (front_of s) (spelled_positive s) is.0 (sym h ∙ split) is.1.0)
    least (Number touches value) (b ∷ bs) rest h (inr is) =
        let first : b ≡ 48 = cc in
        absurd (no_digit (spelling s) (b ∷ bs) rest (drop n text) (front_of s) (spelled_positive s) (omega arith) (sym h ∙ split) (ap (λ (c : ℕ). is_ascii_digit c) first))

-- ---- texts that begin with none

letter_is_word : (b : ℕ) → is_ascii_alphabetic b ≡ true → is_word b ≡ true
letter_is_word b h = rw h refl

digit_no_letter : (b : ℕ) → is_ascii_digit b ≡ true → is_ascii_alphabetic b ≡ false
digit_no_letter b h = grind (arith, nat_tests)

unmarked : (text : List ℕ) (u : Symbol) (front rest : List ℕ) → symbol_at text ≡ None → text ≡ front ++ rest → front ≡ spelling u → ⊥
unmarked text u front rest none h is = no (sym (begins_with text (spelling u) rest (h ∙ ap (λ (x : List ℕ). x ++ rest) is)) ∙ no_begin text u none)

-- a word begins with a letter, and a number with a digit
word_first : (b : ℕ) (bs front rest : List ℕ) → b ∷ bs ≡ front ++ rest → IsWord front → is_ascii_alphabetic b ≡ true
word_first b bs [] rest h is = absurd is
word_first b bs (c ∷ cs) rest h is = let same : b ≡ c = cc in ap (λ (c : ℕ). is_ascii_alphabetic c) same ∙ is.0

number_first : (touches : Bool) (value : Option ℕ) (b : ℕ) (bs front rest : List ℕ) → b ∷ bs ≡ front ++ rest → IsToken (Number touches value) front → is_ascii_digit b ≡ true
number_first touches value b bs [] rest h (inl is) = absurd (omega (arith, is.0))
number_first touches value b bs (c ∷ cs) rest h (inl is) = let same : b ≡ c = cc in ap (λ (c : ℕ). is_ascii_digit c) same ∙ is.1.0
number_first touches value b bs [] rest h (inr is) = absurd (cc)
number_first touches value b bs (c ∷ cs) rest h (inr is) =
    let same : b ≡ c = cc in
    let zero_first : c ≡ 48 = cc in
    ap (λ (c : ℕ). is_ascii_digit c) (same ∙ zero_first)

all_word : (x : List ℕ) → IsWord x → AllIn class.Word x
all_word [] h = absurd h
all_word (b ∷ bs) h = (letter_is_word b h.0, h.1)

run_split : (c : Class) (text front rest : List ℕ) → text ≡ front ++ rest → AllIn c front → length front ≤ class_length c text
run_split c text front rest h all = subst (λ (text : List ℕ). length front ≤ class_length c text) (sym h) (run_least c front rest all)

word_is : (b : ℕ) (bs : List ℕ) → is_ascii_alphabetic b ≡ true → IsWord (take (class_length class.Word (b ∷ bs)) (b ∷ bs))
unfolding class_length
word_is b bs a = rw (letter_is_word b a) (a, run_in class.Word bs)

worded : (b : ℕ) (bs : List ℕ) → symbol_at (b ∷ bs) ≡ None → is_ascii_alphabetic b ≡ true → IsLongest (b ∷ bs) (Some (word_at (b ∷ bs)))
worded b bs none a = (run_most class.Word (b ∷ bs), (refl, word_is b bs a), least)
  where
    least : (t : Lexeme) (front rest : List ℕ) → b ∷ bs ≡ front ++ rest → IsToken t front → length front ≤ class_length class.Word (b ∷ bs)
    least (Mark u) front rest h is = absurd (unmarked (b ∷ bs) u front rest none h is)
    least (Word w) front rest h is = run_split class.Word (b ∷ bs) front rest h (all_word front is.1)
    least (Number touches value) front rest h is = no (sym a ∙ digit_no_letter b (number_first touches value b bs front rest h is))

run_some : (c : Class) (b : ℕ) (bs : List ℕ) → is_in c b ≡ true → 0 < class_length c (b ∷ bs)
unfolding class_length
run_some c b bs h = rw h (omega arith)

taken_some : (c : Class) (text : List ℕ) → 0 < class_length c text → 0 < length (take (class_length c text) text)
taken_some c text some = omega (arith, length-take (class_length c text) text, run_most c text)

decimal : (near : Bool) (b : ℕ) (bs : List ℕ) (k : ℕ) → k ≡ class_length class.Decimal (b ∷ bs) → symbol_at (b ∷ bs) ≡ None → is_ascii_digit b ≡ true → is_hexadecimal (b ∷ bs) ≡ false
    → IsLongest (b ∷ bs) (Some (Number near (if_64_bits (digits_value 10 (take (class_length class.Decimal (b ∷ bs)) (b ∷ bs)))), k))
decimal near b bs k e none d plain = rw e (run_most class.Decimal (b ∷ bs), inl (taken_some class.Decimal (b ∷ bs) (run_some class.Decimal b bs d), run_in class.Decimal (b ∷ bs), refl), least)
  where
    least : (t : Lexeme) (front rest : List ℕ) → b ∷ bs ≡ front ++ rest → IsToken t front → length front ≤ class_length class.Decimal (b ∷ bs)
    least (Mark u) front rest h is = absurd (unmarked (b ∷ bs) u front rest none h is)
    least (Word w) front rest h is = no (sym (word_first b bs front rest h is.1) ∙ digit_no_letter b d)
    least (Number touches value) front rest h (inl is) = run_split class.Decimal (b ∷ bs) front rest h is.1
    least (Number touches value) front rest h (inr (digits, same, is)) = hexed digits (h ∙ ap (λ (x : List ℕ). x ++ rest) same) is.0 is.1
      where
        hexed : (digits : List ℕ) → b ∷ bs ≡ (codes "0x" ++ digits) ++ rest → 0 < length digits → AllIn class.Hexadecimal digits → length front ≤ class_length class.Decimal (b ∷ bs)
        hexed [] e some all = absurd (omega arith)
        hexed (x ∷ xs) e some all = no (sym (subst (λ (text : List ℕ). is_hexadecimal text ≡ true) (sym e) all.0) ∙ plain)

-- what stands behind `0x`
record Marked (text : List ℕ) : Type 0 where
  pub rest : List ℕ
  pub same : text ≡ 48 ∷ 120 ∷ rest
  pub some : 0 < class_length class.Hexadecimal rest

both : (a b : Bool) → (a && b) ≡ true → (a ≡ true) × (b ≡ true)
both true b e = (refl, e)
both false b e = absurd (cc)

marked_of : (text : List ℕ) → is_hexadecimal text ≡ true → Marked text
marked_of text e = go text (eqb-true _ _ q.0) (eqb-true _ _ q.1) p.1
  where
    p : (nat_eq (slice_index text 0) 48 && nat_eq (slice_index text 1) 120 ≡ true) × (is_ascii_hexdigit (slice_index text 2) ≡ true)
    p = both (nat_eq (slice_index text 0) 48 && nat_eq (slice_index text 1) 120) (is_ascii_hexdigit (slice_index text 2)) e

    q : (nat_eq (slice_index text 0) 48 ≡ true) × (nat_eq (slice_index text 1) 120 ≡ true)
    q = both (nat_eq (slice_index text 0) 48) (nat_eq (slice_index text 1) 120) p.0

    go : (text : List ℕ) → slice_index text 0 ≡ 48 → slice_index text 1 ≡ 120 → is_ascii_hexdigit (slice_index text 2) ≡ true → Marked text
    go [] x y z = absurd (omega (arith, x))
    go (b ∷ []) x y z = absurd (omega (arith, y))
    go (b ∷ c ∷ []) x y z = absurd (cc)
    go (b ∷ c ∷ d ∷ ds) x y z = record {
      rest = d ∷ ds;
      same = ap (λ (b : ℕ). b ∷ c ∷ d ∷ ds) x ∙ ap (λ (c : ℕ). 48 ∷ c ∷ d ∷ ds) y;
      some = run_some class.Hexadecimal d ds z;
    }

hexadecimal : (near : Bool) (ds : List ℕ) (k : ℕ) → k ≡ suc (suc (class_length class.Hexadecimal ds)) → symbol_at (48 ∷ 120 ∷ ds) ≡ None → 0 < class_length class.Hexadecimal ds
    → IsLongest (48 ∷ 120 ∷ ds) (Some (Number near (if_64_bits (digits_value 16 (take (class_length class.Hexadecimal ds) ds))), k))
hexadecimal near ds k e none some = rw e (within, inr (take (class_length class.Hexadecimal ds) ds, refl, (taken_some class.Hexadecimal ds some, run_in class.Hexadecimal ds, refl)), least)
  where
    within : suc (suc (class_length class.Hexadecimal ds)) ≤ length (48 ∷ 120 ∷ ds)
    within = omega (arith, run_most class.Hexadecimal ds)

    least : (t : Lexeme) (front rest : List ℕ) → 48 ∷ 120 ∷ ds ≡ front ++ rest → IsToken t front → length front ≤ suc (suc (class_length class.Hexadecimal ds))
    least (Mark u) front rest h is = absurd (unmarked (48 ∷ 120 ∷ ds) u front rest none h is)
    least (Word w) front rest h is = no (sym (word_first 48 (120 ∷ ds) front rest h is.1))
    least (Number touches value) [] rest h (inl is) = omega arith
    least (Number touches value) (b ∷ []) rest h (inl is) = omega arith
    least (Number touches value) (b ∷ c ∷ cs) rest h (inl is) =
        let second : c ≡ 120 = cc in
        no (sym is.1.1.0 ∙ ap (λ (c : ℕ). is_ascii_digit c) second)
    least (Number touches value) front rest h (inr (digits, same, is)) =
        let whole : 48 ∷ 120 ∷ ds ≡ 48 ∷ 120 ∷ (digits ++ rest) = h ∙ ap (λ (x : List ℕ). x ++ rest) same in
        let behind : ds ≡ digits ++ rest = cc in
        omega (arith, ap length same, run_split class.Hexadecimal ds digits rest behind is.1)

numbered : (near : Bool) (b : ℕ) (bs : List ℕ) → symbol_at (b ∷ bs) ≡ None → is_ascii_digit b ≡ true → IsLongest (b ∷ bs) (Some (number_lexeme near (b ∷ bs)))
numbered near b bs none d = go (is_hexadecimal (b ∷ bs)) refl
  where
    go : (x : Bool) → is_hexadecimal (b ∷ bs) ≡ x → IsLongest (b ∷ bs) (Some (number_lexeme near (b ∷ bs)))
    go false x = rw x (decimal near b bs (0 + class_length class.Decimal (b ∷ bs)) (omega arith) none d x)
    go true x = rw x (at (b ∷ bs) (marked_of (b ∷ bs) x) none)
      where
        at : (text : List ℕ) → Marked text → symbol_at text ≡ None → IsLongest text (Some (digits_at near class.Hexadecimal 2 text))
        at text m none =
            let empty : symbol_at (48 ∷ 120 ∷ m.rest) ≡ None = subst (λ (text : List ℕ). symbol_at text ≡ None) m.same none in
            subst (λ (text : List ℕ). IsLongest text (Some (digits_at near class.Hexadecimal 2 text))) (sym m.same) (hexadecimal near m.rest (2 + class_length class.Hexadecimal m.rest) (omega arith) empty m.some)

nothing : (b : ℕ) (bs : List ℕ) → symbol_at (b ∷ bs) ≡ None → is_ascii_alphabetic b ≡ false → is_ascii_digit b ≡ false → IsLongest (b ∷ bs) None
nothing b bs none a d (Mark u) front rest h is = unmarked (b ∷ bs) u front rest none h is
nothing b bs none a d (Word w) front rest h is = no (sym (word_first b bs front rest h is.1) ∙ a)
nothing b bs none a d (Number touches value) front rest h is = no (sym (number_first touches value b bs front rest h is) ∙ d)

empty : (t : Lexeme) (front rest : List ℕ) → [] ≡ front ++ rest → IsToken t front → ⊥
empty t (b ∷ bs) rest h is = cc
empty (Mark u) [] rest h is = omega (arith, ap length is, spelled_positive u)
empty (Word w) [] rest h is = is.1
empty (Number touches value) [] rest h (inl is) = omega (arith, is.0)
empty (Number touches value) [] rest h (inr is) = cc

plain : (near : Bool) (text : List ℕ) → symbol_at text ≡ None → IsLongest text (word_or_number near text)
plain near [] none = empty
plain near (b ∷ bs) none = go (is_ascii_alphabetic b) (is_ascii_digit b) refl refl
  where
    go : (x y : Bool) → is_ascii_alphabetic b ≡ x → is_ascii_digit b ≡ y → IsLongest (b ∷ bs) (word_or_number near (b ∷ bs))
    go true y a d = rw a (worded b bs none a)
    go false true a d = rw (a, d) (numbered near b bs none d)
    go false false a d = rw (a, d) (nothing b bs none a d)

-- the law
pub longest_token : (touches : Bool) (text : List ℕ) → IsLongest text (token_at touches text)
longest_token touches text = go (symbol_at text) refl
  where
    go : (r : Option Symbol) → symbol_at text ≡ r → IsLongest text (either r (λ s. Some (Mark s, length (spelling s))) (word_or_number touches text))
    go (Some s) e = marked touches text s e
    go None e = plain touches text e
