use Rattle.std.proofs.Common.{◌≡◌, take}
use Rattle.std.specs.String.{string_bytes}
use Rattle.scx_asm.specs.Printing.{program_text}
use Rattle.scx_asm.proofs.disassembling.disassemble.Given as goal

abbrev pub invariant-loop-slot : goal.invariant-loop-slot
invariant-loop-slot l = string_bytes l.text ≡ program_text (take l.slot l.program)
