use Rattle.scxsim_explore_lines.proofs.Written.{three_on}
use Rattle.scxsim_explore_lines.proofs.summary.write_answer.Goals as goal

pub returns-clause-ok : goal.returns-clause-ok
returns-clause-ok g c =
    let length = rw (c.finding.ensures, c.events.ensures) at c.in_ok-write_length.ensures.ok in
    let last = rw c.cause.ensures at c.write_cause_end.ensures.ok in
    three_on c.write_cause_end.result _ _ _ _ _ _ _ c.in_ok-write_text.ensures.ok length last
