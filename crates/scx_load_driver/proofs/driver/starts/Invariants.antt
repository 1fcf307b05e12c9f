use Rattle.std.proofs.Common.{◌≡◌, map, take, vec_capacity, length}
use Rattle.scx_load_workloads.specs.declared.workload.Timing.{Timing}
use Rattle.scx_load_driver.proofs.driver.starts.Given as goal

abbrev pub invariant-loop-timing : goal.invariant-loop-timing
invariant-loop-timing l = record {
  due : l.due.items ≡ map (λ (t : Timing). t.start) (take l.timing-index l.timings);
  room : vec_capacity l.due ≡ length l.timings;
}
