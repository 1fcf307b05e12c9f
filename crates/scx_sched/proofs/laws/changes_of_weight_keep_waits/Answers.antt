use Rattle.scx_sched.proofs.Lasting.{weights_keep_waits}
use Rattle.scx_sched.proofs.laws.changes_of_weight_keep_waits.Goals as goal

pub returns : goal.returns
returns c = weights_keep_waits
