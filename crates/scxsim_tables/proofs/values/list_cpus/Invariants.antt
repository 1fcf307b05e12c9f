use Rattle.scxsim_output.specs.Texts.{Puts}
use Rattle.scxsim_output.specs.Texts.{all_below}
use Rattle.scxsim_tables.specs.Values.{cpu_values}
use Rattle.scxsim_tables.proofs.values.list_cpus.Given as goal

abbrev pub invariant-loop-number : goal.invariant-loop-number
invariant-loop-number l = Puts l.initial.page (all_below (cpu_values l.figures) l.number) l.page
