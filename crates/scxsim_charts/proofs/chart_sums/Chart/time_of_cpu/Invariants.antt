use Rattle.std.proofs.Common.{◌≡◌}
use Rattle.scxsim_charts.specs.Marks.{all_ran}
use Rattle.scxsim_charts.specs.Times.{time_on}
use Rattle.scxsim_charts.proofs.chart_sums.Chart.time_of_cpu.Given as goal

abbrev pub invariant-loop-task : goal.invariant-loop-task
invariant-loop-task l = l.ran ≡ all_ran l.task (time_on l.self l.cpu l.cell)
