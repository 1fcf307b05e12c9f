use Rattle.scx_sched.proofs.Following.{follows_stepped}
use Rattle.scxsim_trace.proofs.Going.{in_order}
use Rattle.scxsim_trace.proofs.run.step.Goals as goal

pub returns-clause-well : goal.returns-clause-well
returns-clause-well g c =
    (c.step.ensures.answered, follows_stepped _ _ _ _ c.step.ensures.answer c.step.ensures.state c.step.ensures.decided c.step.ensures.cause c.step.ensures.never_stuck c.step.ensures.there)

pub returns-clause-order : goal.returns-clause-order
returns-clause-order g c = in_order _ c.step.ensures.once c.is_sound.ensures.waits c.step.ensures.timely c.step.ensures.bounded
