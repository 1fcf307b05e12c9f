use Rattle.scx_laws.proofs.Faultless.{none_overtakes, none_cuts_in, only_fewer_ahead}
use Rattle.scx_laws.proofs.lines.nobody_overtakes.Goals as goal

pub returns-clause-behind : goal.returns-clause-behind
returns-clause-behind c = none_overtakes

pub returns-clause-ahead : goal.returns-clause-ahead
returns-clause-ahead c = none_cuts_in

pub returns-clause-fewer : goal.returns-clause-fewer
returns-clause-fewer c = only_fewer_ahead
