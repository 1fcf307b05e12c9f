use Rattle.std.proofs.Common.{◌≡◌, ◌≤◌, nat_eq, length}
use Rattle.scx_asm_text.specs.Tokens.{lexemes, tokens_from, tokens}
use Rattle.scx_asm_text.proofs.Lexing.{onto}
use Rattle.scx_asm_text.proofs.lexer.tokens.Given as goal

abbrev pub invariant-loop-rest : goal.invariant-loop-rest
invariant-loop-rest l =
    (onto (lexemes l.found.items) (tokens_from (nat_eq (length l.rest) l.end) 0 l.rest) ≡ tokens l.line) × (length l.rest ≤ l.end)

abbrev pub decreases-loop-rest : goal.decreases-loop-rest
decreases-loop-rest l = length l.rest
