use Rattle.std.proofs.Common.{arith, refl}
use Rattle.scx_sched_machine.proofs.Unchanged.{comes_in_committed}
use Rattle.scx_sched_machine.proofs.machine.Machine.put.Goals as goal

pub returns-clause-committed : goal.returns-clause-committed
returns-clause-committed g c =
    let calm = c.call_back.ensures.calm refl in
    let more = comes_in_committed _ _ c.args.task c.args.cpu c.come_in.ensures.state c.come_in.ensures.few in
    omega (arith, calm, more)
