use Rattle.scxsim_output.specs.Texts.{Puts}
use Rattle.scxsim_output.specs.Texts.{all_below}
use Rattle.scxsim_tables.specs.Tables.{task_row}
use Rattle.scxsim_tables.proofs.tables.write_task_rows.Given as goal

abbrev pub invariant-loop-number : goal.invariant-loop-number
invariant-loop-number l = Puts l.initial.page (all_below (task_row l.figures) l.number) l.page
