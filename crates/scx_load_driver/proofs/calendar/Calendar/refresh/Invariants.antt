use Rattle.std.proofs.Common.{◌≡◌, ◌-◌, ◌≤◌, length}
use Rattle.scx_load_driver.specs.Calendar.{IsWhole}
use Rattle.scx_load_driver.proofs.Days.{AreLeft, AreLater}
use Rattle.scx_load_driver.proofs.calendar.Calendar.refresh.Given as goal

-- whoever wakes later stays, and of those so far nobody does sooner than what is found
abbrev pub invariant-loop-task : goal.invariant-loop-task
invariant-loop-task l = record {
  days : l.self.soonest ≡ l.fn.self.soonest;
  whole : IsWhole l.self;
  within : l.task ≤ length l.due;
  left : AreLeft l.due l.now l.self.there;
  later : AreLater l.task l.due l.now l.soonest;
}

-- the tasks that are left
abbrev pub decreases-loop-task : goal.decreases-loop-task
decreases-loop-task l = length l.due - l.task
