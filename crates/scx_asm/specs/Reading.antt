-- The program that a text describes, or its first fault: the first pass lays the text out,
-- and the second one resolves instruction by instruction. A text without an instruction is
-- faulty at its first line.
use Rattle.std.specs.Prelude.{ℕ, nat_eq, List, [], ◌∷◌, Some, None, Result, Ok, Err, if◌then◌else◌}
use Rattle.std.specs.List.{flat_map}
use Rattle.std.specs.Str.Lines.{lines}
use Rattle.scx_isa_semantics.specs.declared.instructions.Insn.{Insn}
use Rattle.scx_isa_semantics.specs.Code.{Code, is_wide}
use Rattle.scx_asm.specs.declared.faults.AsmFault.{AsmFault}
use Rattle.scx_asm.specs.declared.faults.AsmFault.TheVariants.{Syntax}
use Rattle.scx_asm.specs.Resolving.{Labels, insn_for}
use Rattle.scx_isa_semantics.specs.Results.{◌>>=◌}
use Rattle.scx_asm.specs.FirstPass.{UnresolvedLine, FirstPassState, nothing_read, at_line, first_pass}

-- the instructions of unresolved lines, or the first fault of one
unfoldable pub second_pass : Labels → List UnresolvedLine → Result (List Insn) (AsmFault × ℕ)
second_pass labels [] = Ok []
second_pass labels (d ∷ ds) = do
  insn ← at_line d.line (insn_for labels d.slot d.says)
  insns ← second_pass labels ds
  Ok (insn ∷ insns)

-- the instructions of all lines, at least one, or the first fault of the second pass
abbrev pub insns_of : FirstPassState → Result (List Insn) (AsmFault × ℕ)
insns_of p = if nat_eq p.slots 0 then Err (Syntax, 1) else second_pass p.labels p.unresolved

-- the instructions that a text describes
abbrev pub read_insns : List ℕ → Result (List Insn) (AsmFault × ℕ)
read_insns text = first_pass 1 nothing_read (lines text) >>= insns_of

-- the slots of an instruction, and those of a program
abbrev pub insn_occupants : Insn → Code
insn_occupants i = if is_wide i then (Some i ∷ None ∷ []) else (Some i ∷ [])

-- the slots of a program with these instructions, in order
abbrev pub code_of : List Insn → Code
code_of insns = flat_map insn_occupants insns

-- the program that a text describes, or its first fault and the line of that
abbrev pub read_text : List ℕ → Result Code (AsmFault × ℕ)
read_text text = read_insns text >>= λ insns. Ok (code_of insns)
