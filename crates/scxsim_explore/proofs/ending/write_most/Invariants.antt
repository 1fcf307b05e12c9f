use Rattle.scxsim_explore.proofs.Told.{IsSoFar}
use Rattle.scxsim_explore.proofs.ending.write_most.Given as goal

-- what is written so far are lists that the machine shows
abbrev pub invariant-loop-callback : goal.invariant-loop-callback
invariant-loop-callback g l =
    IsSoFar l.mode l.about l.fn.begun.machines l.begun.machines l.teller (g.W.Out.contents l.fn.out) (g.W.Out.contents l.out) (g.W.Out.failure_count l.fn.out) (g.W.Out.failure_count l.out)
