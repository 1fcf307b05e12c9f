-- The tokens of a line: words, numbers and symbols, each as long as can be, with spaces and tabs
-- between them as one likes, up to a comment.
use Rattle.std.specs.Prelude.{ℕ, zero, suc, ◌+◌, ◌-◌, ◌^◌, nat_eq, nat_lt, Bool, true, false, ◌&&◌, ◌||◌, List, [], ◌∷◌, length, take, drop, map, slice_index, Option, Some, None, if◌then◌else◌}
use Rattle.std.specs.Char.{is_ascii_digit, is_ascii_alphabetic, is_ascii_hexdigit}
use Rattle.std.specs.Str.Parse.{digits_value}
use Rattle.scx_asm_text.specs.declared.symbols.Symbol.{Symbol}
use Rattle.scx_asm_text.specs.declared.lexer.Class.{Class}
use Rattle.scx_asm_text.specs.declared.lexer.Class.TheVariants as class
use Rattle.scx_asm_text.specs.declared.lexer.Token.{Token}
use Rattle.scx_asm_text.specs.declared.lexer.Token.TheVariants as token
use Rattle.scx_asm_text.specs.Options.{◌>>=◌, either}
use Rattle.scx_asm_text.specs.Symbols.{spelling, symbol_at}

-- A token, wherever its word lies. A number says whether it touches the token before it, and has
-- no value where that is 2^64 or more.
pub data Lexeme : Type 0 where
  Word : List ℕ → Lexeme
  Number : Bool → Option ℕ → Lexeme
  Mark : Symbol → Lexeme

-- a token of the code, with its word's bytes
abbrev pub lexeme : Token → Lexeme
lexeme (token.Word w) = Word w.now
lexeme (token.Number touches value) = Number touches value
lexeme (token.Mark s) = Mark s

-- the tokens of the code, each with its word's bytes
abbrev pub lexemes : List Token → List Lexeme
lexemes ts = map lexeme ts

-- ---- runs of bytes

-- a space or a tab, which separate tokens
abbrev pub is_blank : ℕ → Bool
is_blank b = nat_eq b 32 || nat_eq b 9

-- letters, digits and the underscore
abbrev pub is_word : ℕ → Bool
is_word b = (is_ascii_alphabetic b || is_ascii_digit b) || nat_eq b 95

-- true if a byte may be in a word, in a decimal number or in a hexadecimal one
abbrev pub is_in : Class → ℕ → Bool
is_in class.Word b = is_word b
is_in class.Decimal b = is_ascii_digit b
is_in class.Hexadecimal b = is_ascii_hexdigit b

-- the number of bytes of the class at the front of the text
unfoldable pub class_length : Class → List ℕ → ℕ
class_length c [] = 0
class_length c (b ∷ bs) = if is_in c b then suc (class_length c bs) else 0

-- ---- one token, and how many bytes it has

-- the number, if it is below 2^64
abbrev pub if_64_bits : ℕ → Option ℕ
if_64_bits n = if nat_lt n (2 ^ 64) then Some n else None

-- the base of numbers with digits of the class
abbrev pub radix : Class → ℕ
radix class.Hexadecimal = 16
radix c = 10

-- the number whose digits follow a prefix of that length, and the length with the prefix
abbrev pub digits_at : Bool → Class → ℕ → List ℕ → Lexeme × ℕ
digits_at touches c prefix text =
    let n = class_length c (drop prefix text) in
    (Number touches (if_64_bits (digits_value (radix c) (take n (drop prefix text)))), prefix + n)

-- a text begins with the mark of a hexadecimal number and such a digit
abbrev pub is_hexadecimal : List ℕ → Bool
is_hexadecimal text =
    (nat_eq (slice_index text 0) 48 && nat_eq (slice_index text 1) 120)
    && is_ascii_hexdigit (slice_index text 2)

-- the number with which the text begins, hexadecimal if by `0x` and a digit, and its length
abbrev pub number_lexeme : Bool → List ℕ → Lexeme × ℕ
number_lexeme touches text =
    if is_hexadecimal text then digits_at touches class.Hexadecimal 2 text
    else digits_at touches class.Decimal 0 text

-- the word with which the text begins, and its length
abbrev pub word_at : List ℕ → Lexeme × ℕ
word_at text = (Word (take (class_length class.Word text) text), class_length class.Word text)

-- the token that a letter or a digit at the front begins, and its length; none for any other byte
abbrev pub word_or_number : Bool → List ℕ → Option (Lexeme × ℕ)
word_or_number touches text =
    if is_ascii_alphabetic (slice_index text 0) then Some (word_at text)
    else (if is_ascii_digit (slice_index text 0) then Some (number_lexeme touches text) else None)

-- a symbol that begins with a letter is longer than the word there
abbrev pub token_at : Bool → List ℕ → Option (Lexeme × ℕ)
token_at touches text =
    either (symbol_at text) (λ s. Some (Mark s, length (spelling s))) (word_or_number touches text)

-- ---- the tokens of a line

-- a token before the tokens of the rest, if those are tokens
abbrev pub followed_by : Lexeme → Option (List Lexeme) → Option (List Lexeme)
followed_by t rest = rest >>= λ ts. Some (t ∷ ts)

-- The tokens after `skip` bytes, where the first of them touches a token or not; 35 is `#`.
unfoldable pub tokens_from : Bool → ℕ → List ℕ → Option (List Lexeme)
tokens_from touches skip [] = Some []
tokens_from touches (suc skip) (b ∷ bs) = tokens_from touches skip bs
tokens_from touches zero (b ∷ bs) =
    if nat_eq b 35 then Some []
    else (if is_blank b then tokens_from false zero bs
    else (token_at touches (b ∷ bs) >>= λ t. followed_by t.0 (tokens_from true (t.1 - 1) bs)))

-- all tokens of a line up to its comment; none where some bytes are no token
abbrev pub tokens : List ℕ → Option (List Lexeme)
tokens text = tokens_from false zero text
