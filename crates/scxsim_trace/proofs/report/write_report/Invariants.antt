use Rattle.std.proofs.Common.{◌≡◌, take}
use Rattle.std.specs.Io.KnownBytes.{Appends}
use Rattle.scxsim_trace.specs.Report.{times, task_lines}
use Rattle.scxsim_trace.proofs.report.write_report.Given as goal

abbrev pub invariant-loop-task : goal.invariant-loop-task
invariant-loop-task g l = record {
  written : Appends (g.W.Out.contents l.initial.out) (g.W.Out.contents l.out) (task_lines (g.N.Names.lists l.names) l.total 0 (take l.task (times l.sim.state.world)));
  unfailed : g.W.Out.failure_count l.out ≡ g.W.Out.failure_count l.initial.out;
}
