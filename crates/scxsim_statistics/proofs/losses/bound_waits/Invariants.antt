use Rattle.std.proofs.Common.{◌≡◌, ◌-◌}
use Rattle.std.specs.Prelude.{length}
use Rattle.scxsim_statistics.specs.Losses.{bound_waits}
use Rattle.scxsim_statistics.proofs.losses.bound_waits.Given as goal

-- no task before that one waits that may run there
abbrev pub invariant-loop-task : goal.invariant-loop-task
invariant-loop-task l =
    bound_waits l.world l.cpu (length l.world.tasks) 0 l.pauses
    ≡ bound_waits l.world l.cpu (length l.world.tasks - l.task) l.task l.pauses
