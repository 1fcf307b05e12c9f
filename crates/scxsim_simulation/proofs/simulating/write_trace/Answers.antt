use Rattle.scxsim_simulation.proofs.Holding.{stops_somewhere}
use Rattle.scxsim_simulation.proofs.simulating.write_trace.Goals as goal

pub returns-clause-ok_in_order : goal.returns-clause-ok_in_order
returns-clause-ok_in_order g c = rw (c.new-events.ensures.events) at c.write_run-written.ensures.ok_in_order

pub returns-clause-err : goal.returns-clause-err
returns-clause-err g c = rw (c.new-events.ensures.events) at c.write_run-written.ensures.err

pub returns-clause-err_stopped : goal.returns-clause-err_stopped
returns-clause-err_stopped g c =
    stops_somewhere c.write_run-written.result _ _ _ _ _ _ (rw (c.new-events.ensures.events) at c.write_run-written.ensures.err_stopped)
