-- The tokens of a line, as a loop goes from token to token.
use Rattle.std.proofs.Common.{◌≡◌, ℕ, zero, suc, ◌-◌, ◌<◌, ◌≤◌, Bool, true, false, nat_eq, List, [], ◌∷◌, ◌++◌, length, drop, slice_index, Option, Some, None, refl, sym, ap, ◌∙◌, append_assoc, arith, length-drop}
use Rattle.std.proofs.lemmas.Bool.{ne_eqb, eq-eqb}
use Rattle.std.proofs.lemmas.List.{append-nil, map-append}
use Rattle.scx_asm_text.specs.Options.{◌>>=◌}
use Rattle.scx_asm_text.specs.declared.lexer.Token.{Token}
use Rattle.scx_asm_text.specs.Tokens.{Lexeme, lexeme, lexemes, is_blank, token_at, followed_by, tokens_from, tokens}

-- the tokens that were read, and those that are left
abbrev pub onto : List Lexeme → Option (List Lexeme) → Option (List Lexeme)
onto front rest = rest >>= λ ts. Some (front ++ ts)

onto_none : (rest : Option (List Lexeme)) → onto [] rest ≡ rest
onto_none None = refl
onto_none (Some ts) = refl

-- before the first token nothing was read, and it touches none
pub begins : (line : List ℕ) (end : ℕ) → length line < end → onto [] (tokens_from (nat_eq (length line) end) 0 line) ≡ tokens line
begins line end past =
    let other : length line ≡ end → ⊥ = λ e. omega (arith, past, e) in
    rw (ne_eqb _ _ other) (onto_none (tokens_from false 0 line))

-- bytes that are still to be passed are passed
pub passed : (touches : Bool) (n : ℕ) (text : List ℕ) → tokens_from touches n text ≡ tokens_from touches 0 (drop n text)
unfolding tokens_from
passed touches zero text = refl
passed touches (suc n) [] = refl
passed touches (suc n) (b ∷ bs) = passed touches n bs

regroup : (front : List Lexeme) (t : Lexeme) (rest : Option (List Lexeme)) → onto front (followed_by t rest) ≡ onto (front ++ t ∷ []) rest
regroup front t None = refl
regroup front t (Some ts) = ap (λ (x : List Lexeme). Some x) (simp append_assoc)

-- a blank is passed over
pub after_blank : (front : List Lexeme) (touches : Bool) (rest : List ℕ) (total : Option (List Lexeme)) → 0 < length rest → nat_eq (slice_index rest 0) 35 ≡ false → is_blank (slice_index rest 0) ≡ true
    → onto front (tokens_from touches 0 rest) ≡ total → onto front (tokens_from false 0 (drop 1 rest)) ≡ total
unfolding tokens_from
after_blank front touches [] total some unmarked here e = absurd (omega arith)
after_blank front touches (b ∷ bs) total some unmarked here e = rw (unmarked, here) at e

-- what follows a blank touches no token, as less is left there than after the last one
parted : (rest : List ℕ) (end : ℕ) → 0 < length rest → length rest ≤ end → nat_eq (length (drop 1 rest)) end ≡ false
parted rest end some fits =
    let other : length (drop 1 rest) ≡ end → ⊥ = λ e. omega (arith, length-drop 1 rest) in
    ne_eqb _ _ other

pub after_gap : (front : List Lexeme) (touches : Bool) (end : ℕ) (rest : List ℕ) (total : Option (List Lexeme)) → 0 < length rest → length rest ≤ end → nat_eq (slice_index rest 0) 35 ≡ false → is_blank (slice_index rest 0) ≡ true
    → onto front (tokens_from touches 0 rest) ≡ total → onto front (tokens_from (nat_eq (length (drop 1 rest)) end) 0 (drop 1 rest)) ≡ total
after_gap front touches end rest total some fits unmarked here e =
    rw (parted rest end some fits) (after_blank front touches rest total some unmarked here e)

-- a token is taken
pub after_token : (front : List Lexeme) (touches : Bool) (rest : List ℕ) (t : Lexeme) (n : ℕ) (total : Option (List Lexeme)) → 0 < n → n ≤ length rest → nat_eq (slice_index rest 0) 35 ≡ false → is_blank (slice_index rest 0) ≡ false
    → token_at touches rest ≡ Some (t, n)
    → onto front (tokens_from touches 0 rest) ≡ total → onto (front ++ t ∷ []) (tokens_from true 0 (drop n rest)) ≡ total
unfolding tokens_from
after_token front touches [] t n total some fits unmarked blank h e = absurd (omega arith)
after_token front touches (b ∷ bs) t zero total some fits unmarked blank h e = absurd (omega arith)
after_token front touches (b ∷ bs) t (suc n) total some fits unmarked blank h e =
    let steps : suc n - 1 ≡ n = omega arith in
    let goes : onto front (followed_by t (tokens_from true (suc n - 1) bs)) ≡ total = rw (unmarked, blank, h) at e in
    let behind : tokens_from true (suc n - 1) bs ≡ tokens_from true 0 (drop n bs) = rw steps (passed true n bs) in
    sym (regroup front t (tokens_from true 0 (drop n bs))) ∙ (ap (λ (x : Option (List Lexeme)). onto front (followed_by t x)) (sym behind) ∙ goes)

-- the same for the tokens of the code
pub after_one : (items : List Token) (touches : Bool) (rest : List ℕ) (t : Token) (n : ℕ) (total : Option (List Lexeme)) → 0 < n → n ≤ length rest → nat_eq (slice_index rest 0) 35 ≡ false → is_blank (slice_index rest 0) ≡ false
    → token_at touches rest ≡ Some (lexeme t, n)
    → onto (lexemes items) (tokens_from touches 0 rest) ≡ total → onto (lexemes (items ++ t ∷ [])) (tokens_from true 0 (drop n rest)) ≡ total
after_one items touches rest t n total some fits unmarked blank h e =
    rw (map-append lexeme items (t ∷ [])) (after_token (lexemes items) touches rest (lexeme t) n total some fits unmarked blank h e)

-- and the next one touches it, if it follows at once
pub after_touched : (items : List Token) (touches : Bool) (rest : List ℕ) (t : Token) (n : ℕ) (total : Option (List Lexeme)) → 0 < n → n ≤ length rest → nat_eq (slice_index rest 0) 35 ≡ false → is_blank (slice_index rest 0) ≡ false
    → token_at touches rest ≡ Some (lexeme t, n)
    → onto (lexemes items) (tokens_from touches 0 rest) ≡ total → onto (lexemes (items ++ t ∷ [])) (tokens_from (nat_eq (length (drop n rest)) (length (drop n rest))) 0 (drop n rest)) ≡ total
after_touched items touches rest t n total some fits unmarked blank h e =
    rw (eq-eqb (length (drop n rest)) (length (drop n rest)) refl) (after_one items touches rest t n total some fits unmarked blank h e)

-- where none stands the line has none
pub no_token : (front : List Lexeme) (touches : Bool) (rest : List ℕ) (total : Option (List Lexeme)) → 0 < length rest → nat_eq (slice_index rest 0) 35 ≡ false → is_blank (slice_index rest 0) ≡ false
    → token_at touches rest ≡ None
    → onto front (tokens_from touches 0 rest) ≡ total → None ≡ total
unfolding tokens_from
no_token front touches [] total some unmarked blank h e = absurd (omega arith)
no_token front touches (b ∷ bs) total some unmarked blank h e = rw (unmarked, blank, h) at e

-- a comment ends the line
pub at_comment : (front : List Lexeme) (touches : Bool) (rest : List ℕ) (total : Option (List Lexeme)) → 0 < length rest → nat_eq (slice_index rest 0) 35 ≡ true
    → onto front (tokens_from touches 0 rest) ≡ total → Some front ≡ total
unfolding tokens_from
at_comment front touches [] total some here e = absurd (omega arith)
at_comment front touches (b ∷ bs) total some here e = sym (ap (λ (x : List Lexeme). Some x) (append-nil front)) ∙ (rw here at e)

-- and so does the end of the text
pub at_end : (front : List Lexeme) (touches : Bool) (rest : List ℕ) (total : Option (List Lexeme)) → length rest ≡ 0
    → onto front (tokens_from touches 0 rest) ≡ total → Some front ≡ total
unfolding tokens_from
at_end front touches [] total none e = sym (ap (λ (x : List Lexeme). Some x) (append-nil front)) ∙ e
at_end front touches (b ∷ bs) total none e = absurd (omega arith)
