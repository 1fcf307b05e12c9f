use Rattle.scxsim_explore.proofs.Told.{told_nothing, told_one}
use Rattle.scxsim_explore.proofs.ending.write_one.Goals as goal

pub returns-in_default-clause-told : goal.returns-in_default-clause-told
returns-in_default-clause-told g c = told_nothing c.args.mode c.args.about.now c.args.begun.now.machines _

pub returns-clause-told : goal.returns-clause-told
returns-clause-told g c =
    told_one c.write_list-written.result c.args.mode c.args.about.now c.args.begun.now.machines c.in-Some.list _ _ c.in-Some.ensures.kept.shown
    (rw (c.first.ensures, c.list_of.ensures.same) at c.write_list-written.ensures.told)
