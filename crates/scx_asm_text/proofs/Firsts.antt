-- A text begins with few of the symbols once its first byte is known.
use Rattle.std.proofs.Common.{◌≡◌, ℕ, ◌≤◌, ◌<◌, Bool, true, false, if◌then◌else◌, nat_eq, List, [], ◌∷◌, length, get_or, ◌∙◌, Option, Some, None, refl, arith}
use Rattle.scx_asm_text.specs.declared.symbols.Symbol.{Symbol}
use Rattle.scx_asm_text.specs.Symbols.{symbols, first_of, symbol_at}

-- what is found among some of the symbols is the longest one, where the others begin with another byte
pub narrowed : (found : Option Symbol) (b : ℕ) (text : List ℕ) (ss : List Symbol) → found ≡ first_of ss text → 1 ≤ length text → get_or text 0 0 ≡ b → ((rest : List ℕ) → first_of ss (b ∷ rest) ≡ first_of symbols (b ∷ rest))
    → found ≡ symbol_at text
narrowed found b [] ss is some e same = absurd (omega (arith, some))
narrowed found b (x ∷ rest) ss is some e same = is ∙ (rw e (same rest))

-- a symbol that alone begins with that byte
pub alone : (s : Symbol) (b : ℕ) (text : List ℕ) → 1 ≤ length text → get_or text 0 0 ≡ b → ((rest : List ℕ) → Some s ≡ first_of symbols (b ∷ rest)) → Some s ≡ symbol_at text
alone s b [] some e same = absurd (omega (arith, some))
alone s b (x ∷ rest) some e same = rw e (same rest)

-- what is found by whether `=` follows the first byte
pub told_by_equals : (found : Option Symbol) (b : ℕ) (text : List ℕ) (s : Symbol) (other : Option Symbol) → found ≡ (if nat_eq (get_or text 1 0) 61 then Some s else other) → 1 ≤ length text → get_or text 0 0 ≡ b
    → ((rest : List ℕ) → Some s ≡ first_of symbols (b ∷ 61 ∷ rest)) → ((x : ℕ) (rest : List ℕ) → nat_eq 61 x ≡ false → other ≡ first_of symbols (b ∷ x ∷ rest)) → other ≡ first_of symbols (b ∷ [])
    → found ≡ symbol_at text
told_by_equals found b [] s other is some e with_it without alone = absurd (omega (arith, some))
told_by_equals found b (y ∷ []) s other is some e with_it without alone = is ∙ (rw e alone)
told_by_equals found b (y ∷ x ∷ rest) s other is some e with_it without alone = by (nat_eq x 61) refl
  where
    by : (t : Bool) → nat_eq x 61 ≡ t → found ≡ symbol_at (y ∷ x ∷ rest)
    by true t = let same : x ≡ 61 = grind (arith, t) in rw t at is ∙ rw (e, same) (with_it rest)
    by false t = let no : nat_eq 61 x ≡ false = grind (arith, t) in rw t at is ∙ rw e (without x rest no)

-- no text begins with a symbol
pub no_text : (text : List ℕ) → length text < 1 → None ≡ symbol_at text
unfolding first_of
no_text [] e = refl
no_text (x ∷ rest) e = absurd (omega (arith, e))

-- a byte with which no symbol begins
pub record BeginsNone (x : ℕ) : Type 0 where
  pub signed : nat_eq 115 x ≡ false
  pub less : nat_eq 60 x ≡ false
  pub greater : nat_eq 62 x ≡ false
  pub equal : nat_eq 61 x ≡ false
  pub plus : nat_eq 43 x ≡ false
  pub minus : nat_eq 45 x ≡ false
  pub star : nat_eq 42 x ≡ false
  pub and : nat_eq 38 x ≡ false
  pub slash : nat_eq 47 x ≡ false
  pub percent : nat_eq 37 x ≡ false
  pub bar : nat_eq 124 x ≡ false
  pub caret : nat_eq 94 x ≡ false
  pub bang : nat_eq 33 x ≡ false
  pub opening : nat_eq 40 x ≡ false
  pub closing : nat_eq 41 x ≡ false
  pub colon : nat_eq 58 x ≡ false

-- nor does one whose first byte begins none
pub no_symbol : (text : List ℕ) → 1 ≤ length text → BeginsNone (get_or text 0 0) → None ≡ symbol_at text
unfolding first_of
no_symbol [] some n = absurd (omega (arith, some))
no_symbol (x ∷ rest) some n =
    rw (n.signed, n.less, n.greater, n.equal, n.plus, n.minus, n.star, n.and, n.slash, n.percent, n.bar, n.caret, n.bang, n.opening, n.closing, n.colon) refl
