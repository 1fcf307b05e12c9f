use Rattle.scx_explore_findings.specs.Path.{IsAs}
use Rattle.scx_explore_findings.proofs.Replaying.{IsGone}
use Rattle.scx_explore_findings.proofs.outcome.replay.Given as goal

abbrev pub invariant-loop-at : goal.invariant-loop-at
invariant-loop-at g l = IsGone l.fn.sim l.events g.S.Sink.takes l.fn.sink l.at l.sim l.sink × IsAs l.fn.sim l.sim
