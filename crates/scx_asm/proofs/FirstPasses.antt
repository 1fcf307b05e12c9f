-- The first pass, as a loop goes from line to line.
use Rattle.std.proofs.Common.{◌≡◌, ℕ, suc, ◌+◌, ◌<◌, ◌≤◌, List, length, map, drop, get_or, Result, Ok, Err, Bor, refl, sym, ap, ◌∙◌, arith}
use Rattle.std.proofs.lemmas.List.{drop_more, drop_all}
use Rattle.scx_asm.specs.declared.faults.AsmFault.{AsmFault}
use Rattle.scx_asm.specs.declared.faults.AsmError.{AsmError}
use Rattle.scx_asm.specs.declared.faults.AsmError.TheVariants as errors
use Rattle.scx_asm.specs.FirstPass.{FirstPassState, Fails, at_line, with_text, first_pass}

-- the state behind the first i lines, and the lines that are left
abbrev pub left : List (Bor (List ℕ)) → ℕ → FirstPassState → Result FirstPassState (AsmFault × ℕ)
left lines i p = first_pass (i + 1) p (map (λ (l : Bor (List ℕ)). l.now) (drop i lines))

step : (lines : List (Bor (List ℕ))) (i : ℕ) (d : Bor (List ℕ)) (p q : FirstPassState) → i < length lines → at_line (i + 1) (with_text (i + 1) p (get_or lines i d).now) ≡ Ok q → left lines i p ≡ left lines (i + 1) q
unfolding first_pass
step lines i d p q lt e =
    let number : suc (i + 1) ≡ i + 1 + 1 = omega arith in
    rw (drop_more lines i d lt, e) (ap (λ n. first_pass n q (map (λ (l : Bor (List ℕ)). l.now) (drop (i + 1) lines))) number)

-- one line more is read
pub goes_on : (lines : List (Bor (List ℕ))) (i : ℕ) (d : Bor (List ℕ)) (p q : FirstPassState) (total : Result FirstPassState (AsmFault × ℕ)) → i < length lines → at_line (i + 1) (with_text (i + 1) p (get_or lines i d).now) ≡ Ok q
    → left lines i p ≡ total → left lines (i + 1) q ≡ total
goes_on lines i d p q total lt e so_far = sym (step lines i d p q lt e) ∙ so_far

-- a line that is refused ends the pass
pub ends : (error : AsmError) (lines : List (Bor (List ℕ))) (i : ℕ) (d : Bor (List ℕ)) (p : FirstPassState) (total : Result FirstPassState (AsmFault × ℕ)) → i < length lines → Fails error (at_line (i + 1) (with_text (i + 1) p (get_or lines i d).now))
    → left lines i p ≡ total → Fails error total
unfolding first_pass
ends (errors.Refused fault line) lines i d p total lt e so_far =
    let one : left lines i p ≡ Err (fault, line) = rw (drop_more lines i d lt, e) refl in
    sym so_far ∙ one
ends errors.OutOfMemory lines i d p total lt e so_far = tt

-- past the last line the pass is done
pub is_done : (lines : List (Bor (List ℕ))) (i : ℕ) (p : FirstPassState) (total : Result FirstPassState (AsmFault × ℕ)) → length lines ≤ i → left lines i p ≡ total → total ≡ Ok p
unfolding first_pass
is_done lines i p total le so_far =
    let one : left lines i p ≡ Ok p = rw (drop_all i lines le) refl in
    sym so_far ∙ one
