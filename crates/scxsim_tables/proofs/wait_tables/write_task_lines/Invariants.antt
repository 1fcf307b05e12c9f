use Rattle.scxsim_output.specs.Texts.{Puts}
use Rattle.scxsim_output.specs.Texts.{all_below}
use Rattle.scxsim_tables.specs.Tables.{task_percents}
use Rattle.scxsim_tables.proofs.wait_tables.write_task_lines.Given as goal

abbrev pub invariant-loop-number : goal.invariant-loop-number
invariant-loop-number l = Puts l.initial.page (all_below (task_percents l.figures) l.number) l.page
