-- The canonical text of a program is read as that program.
use Rattle.std.proofs.Common.{◌≡◌, ◌⊎◌, inl, inr, ℕ, Bool, true, false, List, [], ◌∷◌, ◌++◌, map, Some, None, Result, Ok, Err, refl, sym, ap, subst, ◌∙◌}
use Rattle.std.specs.List.{AllByRecursion, IsDistinct}
use Rattle.std.specs.Str.{bytes_eq}
use Rattle.scx_isa_semantics.specs.declared.instructions.Insn.{Insn}
use Rattle.scx_isa_semantics.specs.Code.{Code, is_wide}
use Rattle.scx_isa_encoding.specs.Spelling.{IsInsn}
use Rattle.scx_isa.specs.Spelling.{IsCode, IsProgram}
use Rattle.scx_asm_text.specs.Items.{read_line}
use Rattle.scx_asm.specs.Resolving.{Labels}
use Rattle.scx_asm.specs.Standing.{definitions, names, StandsFor}
use Rattle.scx_asm.specs.declared.faults.AsmFault.{AsmFault}
use Rattle.scx_asm.specs.declared.faults.AsmError.{AsmError}
use Rattle.scx_asm.specs.declared.faults.AsmError.TheVariants.{Refused, OutOfMemory}
use Rattle.scx_asm.specs.FirstPass.{Gives}
use Rattle.scx_asm.specs.Reading.{read_text, code_of}
use Rattle.scx_asm.specs.Printing.{occupant_text, program_text}
use Rattle.scx_asm.proofs.ItemsBack.{line_as}
use Rattle.scx_asm.proofs.MeaningBack.{defines_none, all_said, all_read}
use Rattle.scx_asm.proofs.Standing.{read_as}
use Rattle.scx_asm.proofs.LinesBack.{lines_text, lines_again}

insns_of : Code → List Insn
insns_of [] = []
insns_of (None ∷ code) = insns_of code
insns_of (Some i ∷ code) = i ∷ insns_of code

text_again : (code : Code) → program_text code ≡ lines_text (insns_of code)
unfolding insns_of
text_again [] = refl
text_again (None ∷ code) = text_again code
text_again (Some i ∷ code) = ap (λ (x : List ℕ). occupant_text (Some i) ++ x) (text_again code)

abbrev due : Bool → Code
due true = None ∷ []
due false = []

code_again : (b : Bool) (code : Code) → IsCode b code → code ≡ due b ++ code_of (insns_of code)
unfolding insns_of
code_again false [] h = refl
code_again true [] h = absurd h
code_again false (None ∷ code) h = absurd h
code_again true (Some i ∷ code) h = absurd h
code_again true (None ∷ code) h = ap (λ (x : Code). None ∷ x) (code_again false code h)
code_again false (Some i ∷ code) h = go (is_wide i) refl (code_again (is_wide i) code h.1)
  where
    go : (b : Bool) → is_wide i ≡ b → code ≡ due (is_wide i) ++ code_of (insns_of code) → Some i ∷ code ≡ code_of (i ∷ insns_of code)
    go true w e = let rest : code ≡ None ∷ code_of (insns_of code) = rw w at e in rw w (ap (λ (x : Code). Some i ∷ x) rest)
    go false w e = let rest : code ≡ code_of (insns_of code) = rw w at e in rw w (ap (λ (x : Code). Some i ∷ x) rest)

all_fit : (b : Bool) (code : Code) → IsCode b code → AllByRecursion IsInsn (insns_of code)
unfolding insns_of
all_fit false [] h = tt
all_fit true [] h = absurd h
all_fit false (None ∷ code) h = absurd h
all_fit true (Some i ∷ code) h = absurd h
all_fit true (None ∷ code) h = all_fit false code h
all_fit false (Some i ∷ code) h = (h.0, all_fit (is_wide i) code h.1)

-- the canonical text of a program stands for it
stands : (code : Code) → IsProgram code → StandsFor (lines_text (insns_of code)) code
unfolding IsDistinct
stands code h =
    let is = insns_of code in
    let fit = all_fit false code h.insns in
    let none : definitions 0 (map line_as is) ≡ [] = defines_none 0 is fit in
    record {
      says = map line_as is;
      insns = is;
      read = ap (λ (texts : List (List ℕ)). map read_line texts) (lines_again is fit) ∙ all_read is fit;
      once = subst (λ (es : Labels). IsDistinct bytes_eq (names es)) (sym none) tt;
      said = all_said (definitions 0 (map line_as is)) 0 is fit;
      program = code_again false code h.insns;
      some = h.some;
      fits = h.fits;
    }

-- by the definitions
pub reads_back : (code : Code) → IsProgram code → read_text (program_text code) ≡ Ok code
reads_back code h = rw (text_again code) (read_as (lines_text (insns_of code)) code (stands code h))

-- an answer that gives what was read
given : (code : Code) (answer : Result Code AsmError) (read : Result Code (AsmFault × ℕ)) → read ≡ Ok code → Gives (λ program. program) answer read → (answer ≡ Ok code) ⊎ (answer ≡ Err OutOfMemory)
given code (Ok program) read e h = let same : program ≡ code = cc in inl (ap (λ (x : Code). Ok x) same)
given code (Err (Refused fault line)) read e h = absurd (cc)
given code (Err OutOfMemory) read e h = inr refl

-- by a function that reads, unless memory runs out
pub assembles_back : (code : Code) (answer : Result Code AsmError) → IsProgram code → Gives (λ program. program) answer (read_text (program_text code)) → (answer ≡ Ok code) ⊎ (answer ≡ Err OutOfMemory)
assembles_back code answer h gives = given code answer (read_text (program_text code)) (reads_back code h) gives
