use Rattle.std.proofs.Common.{◌≡◌}
use Rattle.std.specs.Str.Lines.{lines}
use Rattle.scx_asm.specs.FirstPass.{nothing_read, first_pass}
use Rattle.scx_asm.specs.Passes.{first_pass_of}
use Rattle.scx_asm.proofs.FirstPasses.{left}
use Rattle.scx_asm.proofs.scanning.scan.Given as goal

abbrev pub invariant-loop-index : goal.invariant-loop-index
invariant-loop-index l = left l.lines.items l.index (first_pass_of l.pass) ≡ first_pass 1 nothing_read (lines l.text)
