use Rattle.scxsim_explore.proofs.Told.{lists_told}
use Rattle.scxsim_explore_lines.specs.Summary.{nones_of}
use Rattle.scxsim_explore.proofs.ending.write_all_lists.Goals as goal

pub returns-clause-told : goal.returns-clause-told
returns-clause-told g c =
    lists_told c.write_most.result c.args.about.now c.args.begun.now.machines c.args.found.now (nones_of c.args.unfound) _ _ _ _ c.in_ok-write_summary.ensures.ok (rw c.first.ensures at c.in_ok-write_lists.ensures.told) c.write_most.ensures.told
