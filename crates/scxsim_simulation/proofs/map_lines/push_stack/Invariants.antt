use Rattle.std.proofs.Common.{◌+◌, ◌-◌, [], get_or, length}
use Rattle.scx_maps.specs.Laws.{listed}
use Rattle.scxsim_output.specs.Texts.{Puts, all_below}
use Rattle.scxsim_simulation.specs.MapLines.{pop_line}
use Rattle.scxsim_simulation.proofs.map_lines.push_stack.Given as goal

abbrev pub invariant-loop-place : goal.invariant-loop-place
invariant-loop-place l =
    Puts l.initial.text (all_below (λ j. pop_line l.map (j + 1) (get_or (listed l.maps l.map) (length (listed l.maps l.map) - 1 - j) [])) l.place) l.text
