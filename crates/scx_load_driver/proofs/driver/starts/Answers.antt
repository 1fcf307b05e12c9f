use Rattle.std.proofs.Common.{◌∙◌, sym}
use Rattle.std.proofs.lemmas.List.{map_more}
use Rattle.scx_load_workloads.specs.declared.workload.Timing.{Timing}
use Rattle.scx_load_driver.proofs.driver.starts.Goals as goal

pub loop-timing-preserved : goal.loop-timing-preserved
loop-timing-preserved c = record {
  due = rw (c.push_reserved.ensures.items, c.loop-timing.invariant.due) (sym (map_more (λ (t : Timing). t.start) c.args.timings.now c.loop-timing.timing-index _ c.loop-timing-test.true));
  room = c.push_reserved.ensures.capacity ∙ c.loop-timing.invariant.room;
}
