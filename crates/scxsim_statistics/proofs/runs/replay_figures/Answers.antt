use Rattle.scxsim_statistics.proofs.Reading.{of_events, name_is}
use Rattle.scxsim_statistics.proofs.runs.replay_figures.Goals as goal

pub returns-clause-of_events : goal.returns-clause-of_events
returns-clause-of_events g c =
    let found = c.in_ok-run.ensures.run in
    of_events c.args.policy.now c.args.events.now found.0 _ _ _ _
    c.in_ok-gather.ensures.workload found.2 found.1 found.3 c.in_ok-gather.ensures.of_run
    (name_is c.args.policy.now _ _ c.in_ok-gather.ensures.name c.in_ok-run.ensures.named)
