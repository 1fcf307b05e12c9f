use Rattle.std.proofs.Common.{rules}
use Rattle.scxsim_trace.proofs.Going.{gone_further, gone_until, gone_past, order_past}
use Rattle.scxsim_trace.proofs.run.go_through.Goals as goal

pub returns-then-failed : goal.returns-then-failed
returns-then-failed g c =
    gone_until g.S.EventSink.comes g.S.Sink.takes g.S.Sink.has_failed _ _ _ _ _ c.take.new.sim _ _ _ _ c.in-Some.event c.loop-event.invariant.gone c.loop-event.invariant.now c.in-Some.ensures.next c.take.ensures.state c.event.ensures c.take.ensures.notes c.take.ensures.well c.take.ensures.order (search rules)

pub loop-event-preserved : goal.loop-event-preserved
loop-event-preserved g c =
    let comes = g.S.EventSink.comes in
    let takes = g.S.Sink.takes in
    let failed = g.S.Sink.has_failed in
    let before = gone_further comes takes failed _ _ (g.E.Events.remaining c.next.new.self) _ _ c.take.new.sim _ _ _ _ c.in-Some.event c.loop-event.invariant.gone c.loop-event.invariant.now c.in-Some.ensures.next c.take.ensures.state c.event.ensures c.take.ensures.notes c.take.ensures.well (search rules) in
    record {
      gone = gone_past comes takes failed _ _ _ _ _ _ _ _ before c.take.ensures.order (search rules) c.pass_by.ensures;
      now = order_past comes _ _ _ _ _ c.pass_by.ensures c.take.ensures.order;
    }
