use Rattle.scx_load_workloads.proofs.Plainly.{plain_tasks_are_unbound}
use Rattle.scx_load_workloads.proofs.laws.plain_tasks_are_unbound.Goals as goal

pub returns : goal.returns
returns c = plain_tasks_are_unbound
