use Rattle.std.proofs.Common.{◌≡◌, ◌≤◌, ◌-◌, ◌+◌, ◌++◌, length, take, drop, ap, ◌∙◌, arith, length-drop, take_all}
use Rattle.std.proofs.lemmas.List.{length-take-le}
use Rattle.scxsim_output.proofs.Shorts.{with_ends}
use Rattle.scxsim_output.proofs.short.put_ends.Goals as goal

pub returns-clause-text : goal.returns-clause-text
returns-clause-text c =
    let bytes = c.args.bytes.now in
    let width = c.args.width in
    let rest = length bytes - width in
    let covers : rest ≤ width = omega (arith, c.requires.cover, c.requires.width) in
    let whole : take (rest + width - rest) (drop rest bytes) ≡ drop rest bytes = take_all _ (drop rest bytes) (omega (arith, length-drop rest bytes, c.requires.width)) in
    with_ends _ _ _ bytes _ width rest _ _ (c.put_few.ensures.end ∙ ap (λ n. c.args.at + n) (length-take-le width bytes c.requires.width)) c.put_few.ensures.text
    (c.put_few-2.ensures.text ∙ ap (λ z. take (c.args.at + rest) c.put_few.new.text ++ z) whole) covers c.requires.width (omega arith)
