use Rattle.std.specs.Prelude.{take}
use Rattle.scxsim_trace.specs.Lines.{names_of}
use Rattle.scxsim_explore_lines.specs.Found.{event_lines}
use Rattle.scxsim_explore_lines.proofs.Written.{AreWritten}
use Rattle.scxsim_explore_lines.proofs.found.write_events.Given as goal

-- the lines so far
abbrev pub invariant-loop-event : goal.invariant-loop-event
invariant-loop-event g l = AreWritten (event_lines (names_of l.about) (take l.event-index l.events)) (g.W.Out.contents l.initial.out) (g.W.Out.contents l.out) (g.W.Out.failure_count l.initial.out) (g.W.Out.failure_count l.out)
