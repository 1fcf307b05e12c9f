use Rattle.scxsim_output.specs.Texts.{Puts}
use Rattle.scxsim_output.specs.Texts.{all_below}
use Rattle.scxsim_tables.specs.Tables.{group_row}
use Rattle.scxsim_tables.proofs.tables.write_group_rows.Given as goal

abbrev pub invariant-loop-number : goal.invariant-loop-number
invariant-loop-number l = Puts l.initial.page (all_below (group_row l.figures) l.number) l.page
