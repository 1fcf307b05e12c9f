use Rattle.scx_maps.proofs.InOrder.{push_appends, pop_takes_the_first, pop_takes_the_last, stay_within}
use Rattle.scx_maps.proofs.NewLaws.{new_fit}
use Rattle.scx_maps.proofs.laws.lines_are_lists.Goals as goal

pub returns-clause-push : goal.returns-clause-push
returns-clause-push c = push_appends

pub returns-clause-first : goal.returns-clause-first
returns-clause-first c = pop_takes_the_first

pub returns-clause-last : goal.returns-clause-last
returns-clause-last c = pop_takes_the_last

pub returns-clause-within : goal.returns-clause-within
returns-clause-within c = stay_within

pub returns-clause-new : goal.returns-clause-new
returns-clause-new c = new_fit
