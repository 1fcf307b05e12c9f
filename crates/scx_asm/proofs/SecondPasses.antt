-- The second pass, as a loop goes from line to line.
use Rattle.std.proofs.Common.{◌≡◌, ℕ, ◌+◌, ◌<◌, ◌≤◌, List, ◌∷◌, ◌++◌, length, map, drop, get_or, Result, Ok, Err, refl, sym, ap, ◌∙◌, append_assoc}
use Rattle.std.proofs.lemmas.List.{drop_more, drop_all, append-nil}
use Rattle.scx_isa_semantics.specs.declared.instructions.Insn.{Insn}
use Rattle.scx_isa_semantics.specs.Code.{Code}
use Rattle.scx_asm.specs.declared.faults.AsmFault.{AsmFault}
use Rattle.scx_asm.specs.declared.scanning.Unresolved.{Unresolved}
use Rattle.scx_asm_text.specs.Items.{item_value}
use Rattle.scx_asm.specs.Resolving.{Labels, insn_for}
use Rattle.scx_isa_semantics.specs.Results.{◌>>=◌}
use Rattle.scx_asm.specs.declared.faults.AsmError.{AsmError}
use Rattle.scx_asm.specs.declared.faults.AsmError.TheVariants as errors
use Rattle.scx_asm.specs.FirstPass.{FirstPassState, Fails, unresolved_of}
use Rattle.scx_asm.specs.Reading.{second_pass, insns_of, insn_occupants, code_of}

-- the occupants of what was resolved, before those of the instructions that are left
abbrev pub with_front : Code → Result (List Insn) (AsmFault × ℕ) → Result Code (AsmFault × ℕ)
with_front front r = r >>= λ is. Ok (front ++ code_of is)

abbrev pub left : Labels → List Unresolved → ℕ → Code → Result Code (AsmFault × ℕ)
left labels entries i front = with_front front (second_pass labels (map unresolved_of (drop i entries)))

regroup : (front : Code) (i : Insn) (r : Result (List Insn) (AsmFault × ℕ)) → with_front front (r >>= λ is. Ok (i ∷ is)) ≡ with_front (front ++ insn_occupants i) r
regroup front i (Ok is) = ap (λ (x : Code). Ok x) (sym (append_assoc front (insn_occupants i) (code_of is)))
regroup front i (Err e) = refl

-- one line more stands for an instruction
pub goes_on : (labels : Labels) (entries : List Unresolved) (k : ℕ) (d : Unresolved) (front : Code) (i : Insn) (total : Result Code (AsmFault × ℕ)) → k < length entries
    → insn_for labels (get_or entries k d).slot (item_value (get_or entries k d).item) ≡ Ok i
    → left labels entries k front ≡ total → left labels entries (k + 1) (front ++ insn_occupants i) ≡ total
unfolding second_pass
goes_on labels entries k d front i total lt e so_far =
    let one : left labels entries k front ≡ left labels entries (k + 1) (front ++ insn_occupants i) = rw (drop_more entries k d lt, e) (regroup front i (second_pass labels (map unresolved_of (drop (k + 1) entries)))) in
    sym one ∙ so_far

-- a line that stands for none ends the pass
pub ends : (labels : Labels) (entries : List Unresolved) (k : ℕ) (d : Unresolved) (front : Code) (fault : AsmFault) (total : Result Code (AsmFault × ℕ)) → k < length entries
    → insn_for labels (get_or entries k d).slot (item_value (get_or entries k d).item) ≡ Err fault
    → left labels entries k front ≡ total → total ≡ Err (fault, (get_or entries k d).line)
unfolding second_pass
ends labels entries k d front fault total lt e so_far =
    let one : left labels entries k front ≡ Err (fault, (get_or entries k d).line) = rw (drop_more entries k d lt, e) refl in
    sym so_far ∙ one

-- past the last line the pass is done
pub is_done : (labels : Labels) (entries : List Unresolved) (k : ℕ) (front : Code) (total : Result Code (AsmFault × ℕ)) → length entries ≤ k → left labels entries k front ≡ total → total ≡ Ok front
unfolding second_pass
is_done labels entries k front total le so_far =
    let one : left labels entries k front ≡ Ok front = rw (drop_all k entries le) (ap (λ (x : Code). Ok x) (append-nil front)) in
    sym so_far ∙ one

-- a first pass that fails is the answer
pub fails_first : (error : AsmError) (r : Result FirstPassState (AsmFault × ℕ)) → Fails error r → Fails error ((r >>= insns_of) >>= λ is. Ok (code_of is))
fails_first (errors.Refused fault line) r h = rw h refl
fails_first errors.OutOfMemory r h = tt
