use Rattle.scx_abs.proofs.Proper.{start_proper, rule_proper}
use Rattle.scx_abs.proofs.laws.states_are_proper.Goals as goal

pub returns-clause-start : goal.returns-clause-start
returns-clause-start c = start_proper

pub returns-clause-rules : goal.returns-clause-rules
returns-clause-rules c = rule_proper
