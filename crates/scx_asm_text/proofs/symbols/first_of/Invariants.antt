use Rattle.std.proofs.Common.{◌≡◌, drop}
use Rattle.scx_asm_text.specs.Symbols.{first_of}
use Rattle.scx_asm_text.proofs.symbols.first_of.Given as goal

abbrev pub invariant-loop-symbol : goal.invariant-loop-symbol
invariant-loop-symbol l = first_of l.symbols l.text ≡ first_of (drop l.symbol-index l.symbols) l.text
