use Rattle.std.proofs.Common.{◌≡◌, ◌-◌}
use Rattle.std.specs.Prelude.{length}
use Rattle.scxsim_account.specs.Idling.{first_bound}
use Rattle.scxsim_account.proofs.idling.first_bound.Given as goal

-- no task before that one waits that may run there
abbrev pub invariant-loop-task : goal.invariant-loop-task
invariant-loop-task l =
    first_bound l.world l.cpu (length l.world.tasks) 0 l.pauses
    ≡ first_bound l.world l.cpu (length l.world.tasks - l.task) l.task l.pauses
