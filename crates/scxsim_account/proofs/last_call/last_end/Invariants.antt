use Rattle.scxsim_account.proofs.LastHeard.{HasPassed}
use Rattle.scxsim_account.proofs.last_call.last_end.Given as goal

-- the events that have passed, with the end of their last callback
abbrev pub invariant-loop : goal.invariant-loop
invariant-loop g l = HasPassed l.initial.sim (g.E.Events.remaining l.initial.events l.initial.sim) l.sim (g.E.Events.remaining l.events l.sim) l.end
