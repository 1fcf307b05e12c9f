-- How far a run of bytes goes, as a loop counts it.
use Rattle.std.proofs.Common.{◌≡◌, ℕ, suc, ◌+◌, ◌<◌, true, false, List, length, drop, get_or, refl, arith}
use Rattle.std.proofs.lemmas.List.{drop_more}
use Rattle.std.proofs.Math.Seq.{drop-length}
use Rattle.scx_asm_text.specs.declared.lexer.Class.{Class}
use Rattle.scx_asm_text.specs.Tokens.{is_in, class_length}

-- the run goes on
pub run_next : (c : Class) (text : List ℕ) (n i : ℕ) → i < length text → is_in c (get_or text i 0) ≡ true → n ≡ i + class_length c (drop i text) → n ≡ (i + 1) + class_length c (drop (i + 1) text)
unfolding class_length
run_next c text n i lt t e =
    let next : class_length c (drop i text) ≡ suc (class_length c (drop (i + 1) text)) = rw (drop_more text i 0 lt, t) refl in
    omega arith

-- a byte of another class ends it
pub run_stop : (c : Class) (text : List ℕ) (n i : ℕ) → i < length text → is_in c (get_or text i 0) ≡ false → n ≡ i + class_length c (drop i text) → i ≡ n
unfolding class_length
run_stop c text n i lt t e =
    let next : class_length c (drop i text) ≡ 0 = rw (drop_more text i 0 lt, t) refl in
    omega arith

-- and so does the end of the text
pub run_end : (c : Class) (text : List ℕ) (n i : ℕ) → i ≡ length text → n ≡ i + class_length c (drop i text) → i ≡ n
unfolding class_length
run_end c text n i end e =
    let next : class_length c (drop i text) ≡ 0 = rw (end, drop-length text) refl in
    omega arith
