use Rattle.scx_sched.proofs.Resting.{rounds_leave_nothing}
use Rattle.scx_sched.proofs.laws.no_idle_processor_is_forgotten.Goals as goal

pub returns : goal.returns
returns c = rounds_leave_nothing
