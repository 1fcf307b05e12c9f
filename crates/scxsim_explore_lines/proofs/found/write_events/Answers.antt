use Rattle.std.proofs.Common.{rules, ◌<◌, length}
use Rattle.scxsim_trace.specs.Lines.{names_of}
use Rattle.scxsim_explore_lines.specs.Found.{event_line}
use Rattle.scxsim_explore_lines.proofs.Written.{none_written, lines_more}
use Rattle.scxsim_explore_lines.proofs.found.write_events.Goals as goal

pub loop-event-init : goal.loop-event-init
loop-event-init g c = none_written _ _

pub loop-event-preserved : goal.loop-event-preserved
loop-event-preserved g c =
    let within : c.loop-event.event-index < length c.args.events.now = search rules in
    lines_more (event_line (names_of c.args.about.now)) c.args.events.now c.loop-event.event-index _ _ _ _ _ _ _ within (search rules) c.loop-event.invariant c.in_ok-write_event.ensures.ok c.in_ok-write_event.ensures.failures
