use Rattle.std.proofs.Common.{◌≡◌, ◌≤◌, ◌<◌, ◌+◌, ◌-◌, true, length, vec_len, vec_capacity}
use Rattle.scx_load_driver.specs.Watch.{is_watched}
use Rattle.scx_load_driver.specs.Calendar.{IsWhole, AreNoted}
use Rattle.scx_load_driver.proofs.Sleeping.{AreAsleep}
use Rattle.scx_load_driver.proofs.blocks.find_sleeps.Given as goal

abbrev pub invariant-loop-task : goal.invariant-loop-task
invariant-loop-task l = record {
  asleep : AreAsleep l.timings l.ran l.fn.watched l.fn.sim.state.world l.now l.fn.due l.task l.events.items l.due l.watched l.some;
  within : l.task ≤ length l.timings;
  there : l.task < length l.timings → is_watched l.watched l.task ≡ true;
  even : length l.due ≡ length l.timings;
  even_watched : length l.watched ≡ length l.timings;
  whole : IsWhole l.calendar;
  noted : AreNoted l.due (l.now + 1) l.calendar;
  few : vec_len l.events ≤ l.task;
  room : 1024 ≤ vec_capacity l.events;
}

-- the tasks that are left
abbrev pub decreases-loop-task : goal.decreases-loop-task
decreases-loop-task l = length l.timings - l.task
