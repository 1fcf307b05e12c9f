use Rattle.std.proofs.Common.{◌∙◌, ap}
use Rattle.scx_sched_world.specs.declared.notes.What.TheVariants as notes
use Rattle.scx_sched_world.specs.World.{WorldState, with_note}
use Rattle.scx_sched_world.specs.Tasks.{after_enter}
use Rattle.scx_sched_world.specs.Helpers.{with_move}
use Rattle.scx_sched_world.proofs.world.World.release.Goals as goal

pub returns-clause-world : goal.returns-clause-world
returns-clause-world c =
    let entered = c.enter.ensures.world ∙ ap (λ (w : WorldState). after_enter w c.in-Some.task c.args.insert) c.leave_queue.ensures.world in
    rw c.in-Some.is
    (c.note_move.ensures.world
    ∙ ap (λ (w : WorldState). with_note (with_move w) (notes.Insert c.in-Some.task c.args.insert.queue)) entered)
