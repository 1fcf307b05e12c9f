use Rattle.scx_abs.proofs.Joins.{kinds_least, cells_least, joins_monotone}
use Rattle.scx_abs.proofs.laws.joins_are_least.Goals as goal

pub returns-clause-kinds : goal.returns-clause-kinds
returns-clause-kinds c = kinds_least

pub returns-clause-cells : goal.returns-clause-cells
returns-clause-cells c = cells_least

pub returns-clause-monotone : goal.returns-clause-monotone
returns-clause-monotone c = joins_monotone
