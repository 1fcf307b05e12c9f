use Rattle.std.proofs.Common.{◌≡◌, ◌+◌, ◌-◌, ◌≤◌, length, drop}
use Rattle.scx_asm_text.specs.Tokens.{class_length}
use Rattle.scx_asm_text.proofs.lexer.run_of.Given as goal

abbrev pub invariant-loop-count : goal.invariant-loop-count
invariant-loop-count l = (class_length l.class l.text ≡ l.count + class_length l.class (drop l.count l.text)) × (l.count ≤ length l.text)

abbrev pub decreases-loop-count : goal.decreases-loop-count
decreases-loop-count l = length l.text - l.count
