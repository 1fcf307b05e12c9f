use Rattle.std.proofs.Common.{sym, ◌∙◌}
use Rattle.scx_asm_text.proofs.Search.{spelled_positive, symbol_within}
use Rattle.scx_asm_text.proofs.TokenBounds.{within}
use Rattle.scx_asm_text.proofs.lexer.token_at.Goals as goal

pub returns-in-Some-clause-within : goal.returns-in-Some-clause-within
returns-in-Some-clause-within c =
    let size = rw (← c.text.ensures.text) at (spelled_positive c.in-Some.symbol) in
    let fits = rw (← c.text.ensures.text) at (symbol_within c.args.text.now c.in-Some.symbol (sym c.symbol_at.ensures ∙ c.in-Some.is)) in
    (size, fits)

pub returns-in-None-clause-within : goal.returns-in-None-clause-within
returns-in-None-clause-within c = within c.args.touches c.args.text.now c.word_or_number.result c.word_or_number.ensures.token c.word_or_number.ensures.within
