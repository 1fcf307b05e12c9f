use Rattle.scx_verify.proofs.Justified.{typings_cover, refusals_justified}
use Rattle.scx_verify.proofs.laws.refusals_are_justified.Goals as goal

pub returns-clause-forward : goal.returns-clause-forward
returns-clause-forward c = typings_cover

pub returns-clause-justified : goal.returns-clause-justified
returns-clause-justified c = refusals_justified
