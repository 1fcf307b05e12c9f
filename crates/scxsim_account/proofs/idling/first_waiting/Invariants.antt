use Rattle.std.proofs.Common.{◌≡◌, ◌-◌}
use Rattle.scxsim_account.specs.Idling.{first_waiting}
use Rattle.scxsim_account.proofs.idling.first_waiting.Given as goal

-- no task before that one waits
abbrev pub invariant-loop-task : goal.invariant-loop-task
invariant-loop-task l = first_waiting l.tasks 0 l.pauses ≡ first_waiting (l.tasks - l.task) l.task l.pauses
