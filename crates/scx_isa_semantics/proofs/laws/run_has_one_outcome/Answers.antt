use Rattle.scx_isa_semantics.proofs.Outcomes.{ends_once, stuck_once, not_both}
use Rattle.scx_isa_semantics.proofs.laws.run_has_one_outcome.Goals as goal

pub returns-clause-one_end : goal.returns-clause-one_end
returns-clause-one_end c c' = ends_once _

pub returns-clause-one_stuck : goal.returns-clause-one_stuck
returns-clause-one_stuck c c' = stuck_once _

pub returns-clause-not_both : goal.returns-clause-not_both
returns-clause-not_both c c' = not_both _
