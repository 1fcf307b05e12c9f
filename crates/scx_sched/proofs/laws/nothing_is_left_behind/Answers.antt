use Rattle.scx_sched.proofs.Idle.{tick_leaves}
use Rattle.scx_sched.proofs.laws.nothing_is_left_behind.Goals as goal

pub returns : goal.returns
returns c = tick_leaves
