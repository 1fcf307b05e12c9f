-- The canonical text of a program: that of its instructions in order, each with a line
-- feed after it.
use Rattle.std.specs.Prelude.{ℕ, List, [], ◌++◌, codes, Option, Some, None}
use Rattle.std.specs.List.{flat_map}
use Rattle.scx_isa_semantics.specs.declared.instructions.Insn.{Insn}
use Rattle.scx_isa_semantics.specs.Code.{Code}
use Rattle.scx_asm_text.specs.Canonical.{insn_text}

-- the line of the instruction that begins at a slot, with its line feed; none in a second half
abbrev pub occupant_text : Option Insn → List ℕ
occupant_text None = []
occupant_text (Some i) = insn_text i ++ codes "\n"

-- the canonical text of a program, one line for each instruction
abbrev pub program_text : Code → List ℕ
program_text code = flat_map occupant_text code
