use Rattle.std.proofs.Common.{drop}
use Rattle.scx_load_driver.proofs.Going.{IsOnItsWay}
use Rattle.scx_load_driver.proofs.run.go_through.Given as goal

abbrev pub invariant-loop-event : goal.invariant-loop-event
invariant-loop-event g l =
    IsOnItsWay g.S.Sink.takes l.events l.initial.sim l.initial.sink (drop l.event-index l.events) l.sim l.sink
