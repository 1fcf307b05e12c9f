use Rattle.scx_explore_findings.proofs.First.{first_states_are_in_order}
use Rattle.scx_explore_findings.proofs.FifoQueues.{nobody_waits_by_vtime}
use Rattle.scx_explore_audit.proofs.laws.nobody_waits_by_vtime.Goals as goal

pub returns-clause-first : goal.returns-clause-first
returns-clause-first c = first_states_are_in_order

pub returns-clause-after : goal.returns-clause-after
returns-clause-after c = nobody_waits_by_vtime
