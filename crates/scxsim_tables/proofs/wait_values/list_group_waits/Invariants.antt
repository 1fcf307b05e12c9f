use Rattle.scxsim_output.specs.Texts.{Puts}
use Rattle.scxsim_output.specs.Texts.{all_below}
use Rattle.scxsim_tables.specs.Values.{group_waits}
use Rattle.scxsim_tables.proofs.wait_values.list_group_waits.Given as goal

abbrev pub invariant-loop-number : goal.invariant-loop-number
invariant-loop-number l = Puts l.initial.page (all_below (group_waits l.figures) l.number) l.page
