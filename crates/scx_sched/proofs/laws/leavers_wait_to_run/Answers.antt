use Rattle.scx_sched.proofs.Leavers.{leavers_wait}
use Rattle.scx_sched.proofs.laws.leavers_wait_to_run.Goals as goal

pub returns : goal.returns
returns c = leavers_wait
