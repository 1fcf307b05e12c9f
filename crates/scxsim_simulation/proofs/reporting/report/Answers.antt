use Rattle.std.proofs.Common.{refl}
use Rattle.scxsim_simulation.proofs.Holding.{headline_holds}
use Rattle.scxsim_simulation.proofs.reporting.report.Goals as goal

pub returns-clause-done : goal.returns-clause-done
returns-clause-done g c =
    let run = c.in_ok-run.ensures.run in
    (refl, c.in_ok-run.run'.workload, c.in_ok-run.run'.sim, run, headline_holds run.begun _ c.is_whole.ensures c.is_sound.ensures.timeout c.in_ok-write_end.ensures.in_order, c.in_ok-write_end.ensures.ok)

pub returns-in_err-write_end-clause-cut : goal.returns-in_err-write_end-clause-cut
returns-in_err-write_end-clause-cut g c = λ _.
    let run = c.in_ok-run.ensures.run in
    (c.in_ok-run.run'.workload, c.in_ok-run.run'.sim, run, headline_holds run.begun _ c.is_whole.ensures c.is_sound.ensures.timeout c.in_err-write_end.ensures.in_order, c.in_err-write_end.ensures.err)
