use Rattle.scx_sched.proofs.Events.{fine_step}
use Rattle.scx_sched.proofs.laws.events_keep_places.Goals as goal

pub returns : goal.returns
returns c = fine_step
