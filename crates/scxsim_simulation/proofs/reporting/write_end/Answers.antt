use Rattle.scxsim_simulation.proofs.reporting.write_end.Goals as goal

pub returns-clause-err : goal.returns-clause-err
returns-clause-err g c = rw (c.run_silently.ensures.state, c.new-events.ensures.events, c.requires) at c.write_report-written.ensures.err

pub returns-clause-in_order : goal.returns-clause-in_order
returns-clause-in_order g c = rw (c.new-events.ensures.events, c.requires) at c.run_silently.ensures.in_order
