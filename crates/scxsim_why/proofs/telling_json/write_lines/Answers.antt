use Rattle.scxsim_why.proofs.Written.{appended_next}
use Rattle.scxsim_why.proofs.telling_json.write_lines.Goals as goal

pub returns-clause-ok : goal.returns-clause-ok
returns-clause-ok g c =
    let first = rw (c.as_str.ensures.value) at c.in_ok-write_both.ensures.ok in
    let next = rw (c.as_str-2.ensures.value, c.as_str-3.ensures.value) at c.write_both-2.ensures.ok in
    appended_next c.write_both-2.result (g.W.Out.contents c.args.out.now) (g.W.Out.contents c.write_both.new.out) (g.W.Out.contents c.write_both-2.new.out) _ _ first next
