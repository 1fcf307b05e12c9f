use Rattle.scxsim_runs.proofs.Running.{answered_as}
use Rattle.scxsim_runs.proofs.replays.begin_replay.Goals as goal

pub returns-clause-answered : goal.returns-clause-answered
returns-clause-answered c =
    answered_as c.begin_with.result c.args.policy c.into_parts-workload.result.0 c.args.replay.workload c.into_parts-workload.ensures.workload c.begin_with.ensures.answered
