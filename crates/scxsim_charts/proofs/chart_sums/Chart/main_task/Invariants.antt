use Rattle.scxsim_charts.specs.Marks.{NoneAtHalf}
use Rattle.scxsim_charts.specs.Times.{time_on}
use Rattle.scxsim_charts.proofs.chart_sums.Chart.main_task.Given as goal

abbrev pub invariant-loop-task : goal.invariant-loop-task
invariant-loop-task l = NoneAtHalf l.task (time_on l.self l.cpu l.cell) l.length
