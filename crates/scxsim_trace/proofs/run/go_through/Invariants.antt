use Rattle.std.proofs.Common.{length}
use Rattle.scxsim_trace.specs.Runs.{IsInOrder}
use Rattle.scxsim_trace.proofs.Going.{HasGone}
use Rattle.scxsim_trace.proofs.run.go_through.Given as goal

abbrev pub invariant-loop-event : goal.invariant-loop-event
invariant-loop-event g l = record {
  gone : HasGone g.S.EventSink.comes g.S.Sink.takes g.S.Sink.has_failed (g.E.Events.remaining l.initial.events l.initial.sim) l.initial.sim l.initial.sink (g.E.Events.remaining l.events l.sim) l.sim l.sink;
  now : IsInOrder l.sim;
}

abbrev pub decreases-loop-event : goal.decreases-loop-event
decreases-loop-event g l = length (g.E.Events.remaining l.events l.sim)
