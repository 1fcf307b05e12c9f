use Rattle.scx_load_workloads.specs.Workload.{first_tree}
use Rattle.scxsim_runs.proofs.Running.{answered_of}
use Rattle.scxsim_runs.proofs.preparing.start.Goals as goal

pub returns-in-Ok-clause-answered : goal.returns-in-Ok-clause-answered
returns-in-Ok-clause-answered c =
    answered_of c.machine.result c.args.policy c.in-Ok.tree (first_tree c.args.workload.now) c.cpus.result c.args.workload.now.cpus c.in-Ok.ensures.tree c.cpus.ensures c.machine.ensures.answered
