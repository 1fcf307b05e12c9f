use Rattle.std.proofs.Common.{◌∙◌}
use Rattle.scxsim_explore_lines.specs.Summary.{Depths, nones_of}
use Rattle.scxsim_explore.specs.Telling.{AreApart}
use Rattle.scxsim_explore.proofs.Ended.{ended}
use Rattle.scxsim_explore.proofs.ending.write_end.Goals as goal

pub returns-clause-ok : goal.returns-clause-ok
returns-clause-ok g c =
    let looked = c.look_again-looked.ensures in
    let faults = rw (c.asked_in-asked.ensures.tracks, c.asked_in-asked.ensures.bound) at c.are_all_answered.ensures in
    let apart : AreApart c.args.begun.now.starts c.args.begun.now.machines c.args.found.now (nones_of c.look_again-looked.result.unfound) =
    looked.apart c.args.begun.now.starts c.args.found.now (record { sorts = c.gather_unfound-count.ensures.none; overtaken = c.is_unfound.ensures; stalls = λ is. c.gather_unfound-count.ensures.stalls (c.asked_in-asked.ensures.mode ∙ is); faults = faults }) in
    let depths : Depths = record { alike = c.are_tasks_alike.result; levels = c.levels.result.now; last = c.args.course.now.last; misfit = c.misfit_of.result } in
    ended c.write_memory.result c.args.form c.args.about.now c.args.begun.now.machines c.args.course.now.bounds _ depths (nones_of c.look_again-looked.result.unfound) c.args.found.now c.args.end _ _ _ _
    c.requires.end c.misfit_of.ensures looked.bounds apart looked.again (rw c.reach_of.ensures at looked.any) looked.looked (rw c.reach_of.ensures at looked.some) c.requires.kept c.in_ok-write_all_lists.ensures.told c.in_ok-write_search.ensures.ok c.write_memory.ensures.ok
