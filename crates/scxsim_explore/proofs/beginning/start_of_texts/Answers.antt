use Rattle.scxsim_explore.proofs.Started.{started}
use Rattle.scxsim_explore.proofs.beginning.start_of_texts.Goals as goal

pub returns-in-Ok-clause-start : goal.returns-in-Ok-clause-start
returns-in-Ok-clause-start c = started c.args.policy.now c.args.workload.now c.args.bounds _ _ _ c.start_of_run.result c.in_ok-run.ensures.run c.in-Ok.ensures c.start_of_run.ensures.start
