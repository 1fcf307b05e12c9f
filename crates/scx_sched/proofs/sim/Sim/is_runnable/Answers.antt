use Rattle.std.proofs.Common.{◌≡◌, nat_lt, false, arith, length, sym, ◌∙◌}
use Rattle.std.proofs.lemmas.Bool.Decides.{nat_tests}
use Rattle.std.proofs.lemmas.List.{get_or_past}
use Rattle.scx_sched.proofs.sim.Sim.is_runnable.Goals as goal

-- each task has a flag
pub returns-else-task-tasks : goal.returns-else-task-tasks
returns-else-task-tasks c =
    let w = c.args.self.now.state.world in
    let flags : length w.tree.active ≡ length w.tasks = rw (← c.self.view_is) c.self.invariant.valid.fine.sound.flags in
    let off : nat_lt c.args.task c.tasks.result ≡ false = grind (arith, nat_tests, c.if-task-tasks.false) in
    off ∙ sym (get_or_past w.tree.active c.args.task false (omega (arith, flags, c.tasks.ensures, c.if-task-tasks.false)))
