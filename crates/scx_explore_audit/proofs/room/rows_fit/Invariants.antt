use Rattle.scx_explore_audit.proofs.Fitting.{TicksFit}
use Rattle.scx_explore_audit.proofs.room.rows_fit.Given as goal

-- the ticks of each CPU so far fit
abbrev pub invariant-loop-cpu : goal.invariant-loop-cpu
invariant-loop-cpu l = TicksFit l.path l.cpu
