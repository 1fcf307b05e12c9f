use Rattle.scxsim_output.specs.Texts.{Puts, all_below}
use Rattle.scxsim_simulation.specs.MapLines.{copy_lines}
use Rattle.scxsim_simulation.proofs.map_lines.push_copies.Given as goal

abbrev pub invariant-loop-cpu : goal.invariant-loop-cpu
invariant-loop-cpu l =
    Puts l.initial.text (all_below (copy_lines l.maps l.map) l.cpu) l.text
