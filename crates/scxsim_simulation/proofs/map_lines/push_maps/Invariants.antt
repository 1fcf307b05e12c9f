use Rattle.scxsim_output.specs.Texts.{Puts, all_below}
use Rattle.scxsim_simulation.specs.MapLines.{kind_lines}
use Rattle.scxsim_simulation.proofs.map_lines.push_maps.Given as goal

abbrev pub invariant-loop-map : goal.invariant-loop-map
invariant-loop-map l =
    Puts l.initial.text (all_below (kind_lines l.maps) l.map) l.text
