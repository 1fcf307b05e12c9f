use Rattle.std.proofs.Common.{subst}
use Rattle.scx_sched_machine.specs.Callbacks.{AreAnswered}
use Rattle.scx_sched_machine.specs.Start.{start_calls}
use Rattle.scx_load_workloads.specs.Workload.{WorkloadState, first_tree}
use Rattle.scxsim_runs.proofs.scenarios.begin_events.Goals as goal

pub returns-in-Ok-clause-answered : goal.returns-in-Ok-clause-answered
returns-in-Ok-clause-answered c =
    subst (λ (w : WorkloadState). AreAnswered (start_calls c.args.policy (first_tree w) w.cpus)) c.workload.ensures c.in-Ok.ensures.answered
