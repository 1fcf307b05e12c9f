use Rattle.scxsim_explore.proofs.Ended.{few_cant_be, may_be_looked, mode_cant_be}
use Rattle.scxsim_explore.proofs.auditing.moves_within.Goals as goal

pub returns-in-Some-clause-cant : goal.returns-in-Some-clause-cant
returns-in-Some-clause-cant c = λ none. few_cant_be c.args.bounds c.args.about.now _ c.in-Some.is

pub returns-in-None-clause-may : goal.returns-in-None-clause-may
returns-in-None-clause-may c = may_be_looked c.args.bounds c.args.about.now c.moves_in.result c.in-None.is c.moves_in.ensures.of_mode c.moves_in.ensures.changes

pub returns-in-None-clause-cant : goal.returns-in-None-clause-cant
returns-in-None-clause-cant c = mode_cant_be c.args.bounds c.args.about.now c.moves_in.result c.moves_in.ensures.none
