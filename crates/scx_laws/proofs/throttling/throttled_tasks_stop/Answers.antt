use Rattle.scx_laws.proofs.Throttled.{parked_are_throttled, throttled_only_run_on}
use Rattle.scx_laws.proofs.throttling.throttled_tasks_stop.Goals as goal

pub returns-clause-parked : goal.returns-clause-parked
returns-clause-parked c = parked_are_throttled

pub returns-clause-runs : goal.returns-clause-runs
returns-clause-runs c = throttled_only_run_on
