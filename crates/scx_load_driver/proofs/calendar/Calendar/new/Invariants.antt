use Rattle.scx_load_driver.specs.Calendar.{IsWhole, AreNotedBelow}
use Rattle.scx_load_driver.proofs.calendar.Calendar.new.Given as goal

-- the tasks so far are noted
abbrev pub invariant-loop-task : goal.invariant-loop-task
invariant-loop-task l = record {
  whole : IsWhole l.calendar;
  noted : AreNotedBelow l.task l.due 0 l.calendar;
}
