use Rattle.scx_abs_ranges.proofs.KeptByCuts.{cuts_keep, cuts_are_ranges}
use Rattle.scx_abs_ranges.proofs.GrowingCuts.{unequal_inner, cuts_grow, cuts_narrow}
use Rattle.scx_abs_ranges.proofs.ExactCuts.{cuts_are_exact}
use Rattle.scx_abs_ranges.proofs.laws.cuts_are_sound.Goals as goal

pub returns-clause-kept : goal.returns-clause-kept
returns-clause-kept c = cuts_keep

pub returns-clause-ranges : goal.returns-clause-ranges
returns-clause-ranges c = cuts_are_ranges

pub returns-clause-grow : goal.returns-clause-grow
returns-clause-grow c = cuts_grow

pub returns-clause-narrow : goal.returns-clause-narrow
returns-clause-narrow c = cuts_narrow

pub returns-clause-exact : goal.returns-clause-exact
returns-clause-exact c = cuts_are_exact

pub returns-clause-ends : goal.returns-clause-ends
returns-clause-ends c = unequal_inner
