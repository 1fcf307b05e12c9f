use Rattle.std.proofs.Common.{refl}
use Rattle.scxsim_simulation.proofs.Holding.{headline_holds, headline_cut}
use Rattle.scxsim_simulation.proofs.replaying.replay.Goals as goal

pub returns-clause-done : goal.returns-clause-done
returns-clause-done g c =
    let found = c.in_ok-run.ensures.run in
    let whole = rw (found.2) at c.is_whole.ensures in
    let in_order = rw (found.3) at c.in_ok-write_trace.ensures.ok_in_order in
    let written = rw (found.2, found.3) at c.in_ok-write_trace.ensures.ok in
    (refl, found.0, c.in_ok-run.run'.sim, found.1, headline_holds found.1.begun _ whole c.is_sound.ensures.timeout in_order, written)

pub returns-in_err-write_trace-clause-cut : goal.returns-in_err-write_trace-clause-cut
returns-in_err-write_trace-clause-cut g c = λ _.
    let found = c.in_ok-run.ensures.run in
    let whole = rw (found.2) at c.is_whole.ensures in
    let stopped = rw (found.2, found.3) at c.in_err-write_trace.ensures.err_stopped in
    let written = rw (found.2, found.3) at c.in_err-write_trace.ensures.err in
    (found.0, c.in_ok-run.run'.sim, found.1, headline_cut found.1.begun _ stopped.0 _ _ whole c.is_sound.ensures.timeout stopped.1, written)
