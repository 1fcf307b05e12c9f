use Rattle.scx_sched.proofs.Exiting.{exits_are_calls, calls_are_exits}
use Rattle.scx_sched.proofs.laws.exits_are_called.Goals as goal

pub returns-clause-called : goal.returns-clause-called
returns-clause-called c = exits_are_calls

pub returns-clause-told : goal.returns-clause-told
returns-clause-told c = calls_are_exits
