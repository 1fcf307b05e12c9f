-- The law of tokens, which is the contract of a public function without a body of its own: what is
-- read at the front of a text is the longest token with which it begins.
use Rattle.std.specs.Prelude.{ℕ, ◌≡◌, ◌<◌, ◌≤◌, true, Bool, List, [], ◌∷◌, ◌++◌, codes, length, take, Option, Some, None, ◌⊎◌}
use Rattle.std.specs.Char.{is_ascii_alphabetic}
use Rattle.std.specs.List.{AllByRecursion}
use Rattle.std.specs.Str.Parse.{digits_value}
use Rattle.scx_asm_text.specs.declared.lexer.Class.{Class}
use Rattle.scx_asm_text.specs.declared.lexer.Class.TheVariants as class
use Rattle.scx_asm_text.specs.Symbols.{spelling}
use Rattle.scx_asm_text.specs.Tokens.{Lexeme, Word, Number, Mark, is_in, radix, if_64_bits, token_at}

-- each byte is of the class
abbrev pub AllIn : Class → List ℕ → Type 0
AllIn c text = AllByRecursion (λ b. is_in c b ≡ true) text

-- a letter, and letters, digits and underscores after it
abbrev pub IsWord : List ℕ → Type 0
IsWord [] = ⊥
IsWord (b ∷ bs) = (is_ascii_alphabetic b ≡ true) × AllIn class.Word bs

-- digits, at least one, and their value
abbrev pub IsNumeral : Class → Option ℕ → List ℕ → Type 0
IsNumeral c value digits =
    (0 < length digits) × AllIn c digits × (value ≡ if_64_bits (digits_value (radix c) digits))

-- the rest of a text after `0x`
abbrev pub IsHexadecimal : Option ℕ → List ℕ → Type 0
IsHexadecimal value text =
    (digits : List ℕ) × (text ≡ codes "0x" ++ digits) × IsNumeral class.Hexadecimal value digits

-- the bytes are that token, wherever they are
abbrev pub IsToken : Lexeme → List ℕ → Type 0
IsToken (Mark s) text = text ≡ spelling s
IsToken (Word w) text = (text ≡ w) × IsWord text
IsToken (Number touches value) text = IsNumeral class.Decimal value text ⊎ IsHexadecimal value text

-- the text begins with no token, or with that one of that length and with no longer one
abbrev pub IsLongest : List ℕ → Option (Lexeme × ℕ) → Type 0
IsLongest text None =
    (t : Lexeme) (front rest : List ℕ) → text ≡ front ++ rest → IsToken t front → ⊥
IsLongest text (Some found) =
    (found.1 ≤ length text) × IsToken found.0 (take found.1 text)
    × ((t : Lexeme) (front rest : List ℕ)
    → text ≡ front ++ rest → IsToken t front → length front ≤ found.1)

-- at the front of any text the longest token is read, or none where no token begins there
abbrev pub LongestToken : Type 0
LongestToken = (touches : Bool) (text : List ℕ) → IsLongest text (token_at touches text)
