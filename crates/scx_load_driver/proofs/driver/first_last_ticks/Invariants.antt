use Rattle.std.proofs.Common.{◌≡◌, map, take, vec_capacity, length}
use Rattle.scx_load_workloads.specs.declared.workload.Timing.{Timing}
use Rattle.scx_load_driver.specs.Watch.{last_tick}
use Rattle.scx_load_driver.proofs.driver.first_last_ticks.Given as goal

abbrev pub invariant-loop-timing : goal.invariant-loop-timing
invariant-loop-timing l = record {
  last : l.last_ticks.items ≡ map (λ (t : Timing). last_tick t.run 0) (take l.timing-index l.timings);
  room : vec_capacity l.last_ticks ≡ length l.timings;
}
