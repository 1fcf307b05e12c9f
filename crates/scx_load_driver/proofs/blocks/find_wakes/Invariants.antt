use Rattle.std.proofs.Common.{◌≡◌, ◌≤◌, ◌-◌, length, vec_len, vec_capacity}
use Rattle.scx_load_driver.specs.Watch.{last_ticks_of}
use Rattle.scx_load_driver.proofs.Waking.{AreAwake}
use Rattle.scx_load_driver.proofs.blocks.find_wakes.Given as goal

abbrev pub invariant-loop-task : goal.invariant-loop-task
invariant-loop-task l = record {
  awake : AreAwake l.due l.now l.fn.sim.state.world l.fn.ran l.task l.events.items l.ran;
  even : length l.ran ≡ length l.due;
  last : l.last_ticks ≡ last_ticks_of l.timings l.ran;
  within : l.task ≤ length l.due;
  few : vec_len l.events ≤ l.task;
  room : 1024 ≤ vec_capacity l.events;
}

-- the tasks that are left
abbrev pub decreases-loop-task : goal.decreases-loop-task
decreases-loop-task l = length l.due - l.task
