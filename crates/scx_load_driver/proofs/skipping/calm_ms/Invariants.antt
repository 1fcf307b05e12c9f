use Rattle.std.proofs.Common.{ℕ, ◌+◌, ◌<◌}
use Rattle.scx_load_driver.specs.Calendar.{soonest_of}
use Rattle.scx_load_driver.proofs.skipping.calm_ms.Given as goal

-- the milliseconds so far
abbrev pub invariant-loop-ms : goal.invariant-loop-ms
invariant-loop-ms l = record {
  changes : (k : ℕ) → l.now < k → k < l.now + l.ms → k < l.next_change;
  wakes : (k : ℕ) → l.now < k → k < l.now + l.ms → k < soonest_of l.calendar k;
}
