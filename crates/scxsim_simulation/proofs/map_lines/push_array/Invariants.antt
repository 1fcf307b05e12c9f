use Rattle.scx_maps.specs.Laws.{value_at}
use Rattle.scxsim_output.specs.Texts.{Puts, all_below}
use Rattle.scxsim_simulation.specs.MapLines.{if_there, key_line, unless_zero}
use Rattle.scxsim_simulation.proofs.map_lines.push_array.Given as goal

abbrev pub invariant-loop-key : goal.invariant-loop-key
invariant-loop-key l =
    Puts l.initial.text (all_below (λ k. if_there (unless_zero (key_line l.map k)) (value_at l.maps l.map 0 k)) l.key) l.text
