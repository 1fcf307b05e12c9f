use Rattle.std.proofs.Common.{◌≡◌, ℕ, ◌<◌, ◌≤◌, Some}
use Rattle.scx_sched_world.specs.declared.timers.Alarm.{Alarm}
use Rattle.scx_sched_world.specs.Helpers.{alarm_at}
use Rattle.scx_sched_world.proofs.world.World.before_timers.Given as goal

-- the timers so far
abbrev pub invariant-loop-timer : goal.invariant-loop-timer
invariant-loop-timer l = record {
  most : l.clock ≤ l.most;
  early : 0 < l.clock → (k : ℕ) (a : Alarm) → k < l.timer → alarm_at l.self k ≡ Some a → l.clock < a.due;
}
