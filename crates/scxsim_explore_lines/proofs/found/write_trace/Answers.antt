use Rattle.scxsim_explore_lines.proofs.Written.{two_on}
use Rattle.scxsim_explore_lines.proofs.found.write_trace.Goals as goal

pub returns-clause-text : goal.returns-clause-text
returns-clause-text g c =
    let trace = rw c.new.ensures at c.write_run.ensures.ok in
    two_on c.write_run.result _ _ _ _ _ c.in_ok-write_text.ensures.ok trace

pub returns-clause-there : goal.returns-clause-there
returns-clause-there g c = rw c.new.ensures at c.write_run.ensures.ok_state
