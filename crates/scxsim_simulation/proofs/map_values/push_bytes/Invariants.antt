use Rattle.std.proofs.Common.{get_or}
use Rattle.scxsim_output.specs.Texts.{Puts, all_below}
use Rattle.scxsim_simulation.specs.MapLines.{byte_text}
use Rattle.scxsim_simulation.proofs.map_values.push_bytes.Given as goal

abbrev pub invariant-loop-place : goal.invariant-loop-place
invariant-loop-place l =
    Puts l.initial.text (all_below (λ k. byte_text (get_or l.bytes k 0)) l.place) l.text
