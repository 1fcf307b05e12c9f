use Rattle.scx_weights.proofs.Throttled.{uses_keep_throttled, clocks_keep_throttled, clocks_throttle_nobody}
use Rattle.scx_weights.proofs.quotas.throttled_stay.Goals as goal

pub returns-clause-uses : goal.returns-clause-uses
returns-clause-uses c = uses_keep_throttled

pub returns-clause-clocks : goal.returns-clause-clocks
returns-clause-clocks c = clocks_keep_throttled

pub returns-clause-nobody : goal.returns-clause-nobody
returns-clause-nobody c = clocks_throttle_nobody
