use Rattle.std.proofs.Common.{◌∙◌, sym}
use Rattle.std.proofs.lemmas.List.{map_more}
use Rattle.scx_load_workloads.specs.declared.workload.Timing.{Timing}
use Rattle.scx_load_driver.specs.Watch.{last_tick}
use Rattle.scx_load_driver.proofs.driver.first_last_ticks.Goals as goal

pub loop-timing-preserved : goal.loop-timing-preserved
loop-timing-preserved c = record {
  last = rw (c.push_reserved.ensures.items, c.last_tick.ensures, c.loop-timing.invariant.last) (sym (map_more (λ (t : Timing). last_tick t.run 0) c.args.timings.now c.loop-timing.timing-index _ c.loop-timing-test.true));
  room = c.push_reserved.ensures.capacity ∙ c.loop-timing.invariant.room;
}
