use Rattle.std.proofs.Common.{refl}
use Rattle.scxsim_simulation.proofs.Holding.{headline_holds, headline_cut}
use Rattle.scxsim_simulation.proofs.simulating.simulate.Goals as goal

pub returns-clause-done : goal.returns-clause-done
returns-clause-done g c =
    let run = c.in_ok-run.ensures.run in
    let in_order = rw (c.in_ok-run.ensures.events) at c.in_ok-write_trace.ensures.ok_in_order in
    let written = rw (c.in_ok-run.ensures.events) at c.in_ok-write_trace.ensures.ok in
    (refl, c.in_ok-run.run'.workload, c.in_ok-run.run'.sim, run, headline_holds run.begun _ c.is_whole.ensures c.is_sound.ensures.timeout in_order, written)

pub returns-in_err-write_trace-clause-cut : goal.returns-in_err-write_trace-clause-cut
returns-in_err-write_trace-clause-cut g c = λ _.
    let run = c.in_ok-run.ensures.run in
    let stopped = rw (c.in_ok-run.ensures.events) at c.in_err-write_trace.ensures.err_stopped in
    let written = rw (c.in_ok-run.ensures.events) at c.in_err-write_trace.ensures.err in
    (c.in_ok-run.run'.workload, c.in_ok-run.run'.sim, run, headline_cut run.begun _ stopped.0 _ _ c.is_whole.ensures c.is_sound.ensures.timeout stopped.1, written)
