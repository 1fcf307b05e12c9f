use Rattle.scx_abs.proofs.MonotoneRules.{rules_monotone}
use Rattle.scx_abs.proofs.laws.rules_are_monotone.Goals as goal

pub returns : goal.returns
returns c = rules_monotone
