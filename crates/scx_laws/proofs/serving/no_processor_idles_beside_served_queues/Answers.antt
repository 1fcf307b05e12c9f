use Rattle.scx_laws.proofs.Leaving.{step_leaves_none, none_is_left}
use Rattle.scx_laws.proofs.serving.no_processor_idles_beside_served_queues.Goals as goal

pub returns-clause-step : goal.returns-clause-step
returns-clause-step c = step_leaves_none

pub returns-clause-run : goal.returns-clause-run
returns-clause-run c = none_is_left
