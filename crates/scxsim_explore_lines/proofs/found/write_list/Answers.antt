use Rattle.scxsim_explore_lines.proofs.Written.{three_on}
use Rattle.scxsim_explore_lines.proofs.found.write_list.Goals as goal

pub returns-clause-text : goal.returns-clause-text
returns-clause-text g c =
    let first = rw (c.finding.ensures, c.events.ensures) at c.in_ok-write_found.ensures.ok in
    let next = rw c.events-2.ensures at c.in_ok-write_events.ensures.ok in
    let last = rw c.events-3.ensures at c.write_trace.ensures.text in
    three_on c.write_trace.result _ _ _ _ _ _ _ first next last
