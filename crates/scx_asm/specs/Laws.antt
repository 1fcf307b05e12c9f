-- Laws of reading, which are the contract of a public function without a body of its own.
use Rattle.std.specs.Prelude.{◌≡◌, ℕ, List, ◌⊎◌, Result, Ok, Err}
use Rattle.scx_isa_semantics.specs.Code.{Code}
use Rattle.scx_isa.specs.Spelling.{IsProgram}
use Rattle.scx_asm.specs.declared.faults.AsmError.{AsmError}
use Rattle.scx_asm.specs.declared.faults.AsmError.TheVariants.{OutOfMemory}
use Rattle.scx_asm.specs.FirstPass.{Gives}
use Rattle.scx_asm.specs.Reading.{read_text}
use Rattle.scx_asm.specs.Printing.{program_text}
use Rattle.scx_asm.specs.Standing.{StandsFor}

-- The canonical text of a program is read as that program.
abbrev pub ReadsBack : Type 0
ReadsBack = (code : Code) → IsProgram code → read_text (program_text code) ≡ Ok code

-- So what is assembled from a program's canonical text is that program, unless memory ran out.
abbrev pub AssemblesBack : Type 0
AssemblesBack =
    (code : Code) (answer : Result Code AsmError)
    → IsProgram code → Gives (λ program. program) answer (read_text (program_text code))
    → (answer ≡ Ok code) ⊎ (answer ≡ Err OutOfMemory)

-- The program that a text describes is read, so it describes no other.
abbrev pub ReadsWhatStands : Type 0
ReadsWhatStands = (text : List ℕ) (code : Code) → StandsFor text code → read_text text ≡ Ok code
