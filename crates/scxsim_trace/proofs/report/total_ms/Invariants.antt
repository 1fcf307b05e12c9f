use Rattle.std.proofs.Common.{◌≡◌, ◌*◌, ◌^◌, ◌≤◌, take, sum}
use Rattle.scxsim_trace.specs.Report.{times}
use Rattle.scxsim_trace.proofs.report.total_ms.Given as goal

abbrev pub invariant-loop-task : goal.invariant-loop-task
invariant-loop-task l = (l.total ≡ sum (take l.task (times l.sim.state.world))) × (l.total ≤ l.task * 2 ^ 45)
