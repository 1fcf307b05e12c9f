use Rattle.scx_dsq.proofs.FrontLaws.{front_leads, front_moves_none, front_undone}
use Rattle.scx_dsq.proofs.laws.front_pushes_lead.Goals as goal

pub returns-clause-leads : goal.returns-clause-leads
returns-clause-leads c = front_leads

pub returns-clause-others : goal.returns-clause-others
returns-clause-others c = front_moves_none

pub returns-clause-undone : goal.returns-clause-undone
returns-clause-undone c = front_undone
