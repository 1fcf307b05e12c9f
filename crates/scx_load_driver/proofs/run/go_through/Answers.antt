use Rattle.std.proofs.Common.{◌+◌, drop}
use Rattle.std.proofs.lemmas.List.{at_drop_more}
use Rattle.scx_sched.proofs.Following.{follows_stepped}
use Rattle.scx_load_driver.proofs.Going.{gone_further}
use Rattle.scx_load_driver.proofs.run.go_through.Goals as goal

pub loop-event-preserved : goal.loop-event-preserved
loop-event-preserved g c =
    let i = c.loop-event.event-index in
    let all = c.args.events.now in
    gone_further g.S.Sink.takes all _ _ _ (drop i all) (drop (i + 1) all) _ _ _ _ c.loop-event.invariant (at_drop_more (λ es. es) all i _ c.loop-event-test.true) c.step.ensures.state c.step.ensures.notes c.step.ensures.answered c.step.ensures.once c.is_sound-in-loop-event.ensures.waits c.step.ensures.timely c.step.ensures.bounded (follows_stepped _ _ _ _ c.step.ensures.answer c.step.ensures.state c.step.ensures.decided c.step.ensures.cause c.step.ensures.never_stuck c.step.ensures.there)
