-- A token has at least one byte.
use Rattle.std.proofs.Common.{◌≡◌, ℕ, ◌<◌, ◌≤◌, Bool, true, false, List, [], ◌∷◌, length, Option, Some, None, option_map, IfSome, refl, sym, subst, arith}
use Rattle.std.specs.Char.{is_ascii_digit, is_ascii_alphabetic}
use Rattle.scx_asm_text.specs.declared.lexer.Token.{Token}
use Rattle.scx_asm_text.specs.Tokens.{Lexeme, lexeme, class_length, is_hexadecimal, number_lexeme, word_at, word_or_number}

abbrev none_here : Option (Lexeme × ℕ)
none_here = None

number_positive : (touches : Bool) (b : ℕ) (bs : List ℕ) → is_ascii_digit b ≡ true → 0 < (number_lexeme touches (b ∷ bs)).1
unfolding class_length
number_positive touches b bs e = go (is_hexadecimal (b ∷ bs)) refl
  where
    go : (h : Bool) → is_hexadecimal (b ∷ bs) ≡ h → 0 < (number_lexeme touches (b ∷ bs)).1
    go true t = rw t (omega arith)
    go false t = rw (t, e) (omega arith)

word_positive : (b : ℕ) (bs : List ℕ) → is_ascii_alphabetic b ≡ true → 0 < (word_at (b ∷ bs)).1
unfolding class_length
word_positive b bs e = rw e (omega arith)

positive : (touches : Bool) (text : List ℕ) (t : Lexeme × ℕ) → word_or_number touches text ≡ Some t → 0 < t.1
positive touches [] t e = let bad : none_here ≡ Some t = e in absurd (cc)
positive touches (b ∷ bs) t e = go (is_ascii_alphabetic b) (is_ascii_digit b) refl refl
  where
    go : (l d : Bool) → is_ascii_alphabetic b ≡ l → is_ascii_digit b ≡ d → 0 < t.1
    go true d x y = let one : Some (word_at (b ∷ bs)) ≡ Some t = rw x at e in let same : word_at (b ∷ bs) ≡ t = cc in subst (λ (t : Lexeme × ℕ). 0 < t.1) same (word_positive b bs x)
    go false true x y = let one : Some (number_lexeme touches (b ∷ bs)) ≡ Some t = rw (x, y) at e in let same : number_lexeme touches (b ∷ bs) ≡ t = cc in subst (λ (t : Lexeme × ℕ). 0 < t.1) same (number_positive touches b bs y)
    go false false x y = let bad : none_here ≡ Some t = rw (x, y) at e in absurd (cc)

-- what was read of a word or number, within the text
pub within : (touches : Bool) (text : List ℕ) (r : Option (Token × ℕ)) → option_map (λ t. (lexeme t.0, t.1)) r ≡ word_or_number touches text → IfSome r (λ t. t.1 ≤ length text) → IfSome r (λ t. (0 < t.1) × (t.1 ≤ length text))
within touches text None e h = tt
within touches text (Some t) e h = (positive touches text (lexeme t.0, t.1) (sym e), h)
