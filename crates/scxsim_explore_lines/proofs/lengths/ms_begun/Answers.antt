use Rattle.std.proofs.Common.{rules, arith, ◌<◌, length}
use Rattle.scxsim_explore_lines.specs.Found.{ms_begun}
use Rattle.std.specs.Prelude.{true}
use Rattle.scxsim_explore_lines.proofs.Clocks.{ms_more}
use Rattle.scxsim_explore_lines.proofs.lengths.ms_begun.Goals as goal

pub loop-event-preserved : goal.loop-event-preserved
loop-event-preserved c =
    let within : c.loop-event.event-index < length c.args.events.now = search rules in
    record {
      counted = rw (c.with_one-count.ensures.one, c.is_clock-is_first.ensures) (ms_more c.loop-event.count (ms_begun c.args.events.now true) c.loop-event.is_first c.args.events.now c.loop-event.event-index _ within (search rules) c.loop-event.invariant.counted);
      within = omega (arith, c.with_one-count.ensures.most, c.loop-event.invariant.within);
    }
