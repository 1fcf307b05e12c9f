use Rattle.std.proofs.Common.{◌++◌, ◌%◌, ◌+◌, ◌∷◌, [], take, sym, ap, ◌∙◌, append_assoc}
use Rattle.itoa.proofs.Decimal.{PAIRS_at, decimal_two}
use Rattle.scxsim_trace.proofs.lines.put_two_digits.Goals as goal

pub returns-clause-text : goal.returns-clause-text
returns-clause-text c =
    let number = c.args.number in
    let before = take c.args.at c.args.line.now in
    let digits = PAIRS_at number c.requires.most in
    c.put_byte.ensures.text
    ∙ ap (λ d. take c.put_byte-at.result c.put_byte-at.new.text ++ (d ∷ [])) digits.1
    ∙ ap (λ text. text ++ ((48 + number % 10) ∷ [])) (c.put_byte-at.ensures.text ∙ ap (λ d. before ++ (d ∷ [])) digits.0)
    ∙ append_assoc before _ _
    ∙ ap (λ text. before ++ text) (sym (decimal_two number c.requires.least c.requires.most))
