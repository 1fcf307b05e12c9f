use Rattle.scxsim_statistics.proofs.Reading.{of_texts, name_is}
use Rattle.scxsim_statistics.proofs.runs.figures.Goals as goal

pub returns-clause-of_texts : goal.returns-clause-of_texts
returns-clause-of_texts g c =
    let figures = rw (c.into_run.ensures.machine, c.into_run.ensures.events) at c.in_ok-gather.ensures.of_run in
    of_texts c.args.policy.now c.args.scenario.now _ _ _ _ _
    c.in_ok-gather.ensures.workload c.into_run.ensures.workload c.in_ok-run.ensures.run c.in_ok-run.ensures.events figures
    (name_is c.args.policy.now _ _ c.in_ok-gather.ensures.name (rw (c.into_run.ensures.name) c.in_ok-run.ensures.named))
