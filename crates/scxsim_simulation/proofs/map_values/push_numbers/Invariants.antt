use Rattle.scxsim_output.specs.Texts.{Puts, all_below}
use Rattle.scxsim_simulation.specs.MapLines.{number_text}
use Rattle.scxsim_simulation.proofs.map_values.push_numbers.Given as goal

abbrev pub invariant-loop-place : goal.invariant-loop-place
invariant-loop-place l =
    Puts l.initial.text (all_below (number_text l.bytes) l.place) l.text
