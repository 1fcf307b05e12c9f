use Rattle.std.proofs.Common.{get_or, None}
use Rattle.scx_isa_semantics.specs.Elements.{directory}
use Rattle.scxsim_output.specs.Texts.{Puts, all_below}
use Rattle.scxsim_simulation.specs.MapLines.{held_in, held_line}
use Rattle.scxsim_simulation.proofs.map_lines.push_hash.Given as goal

abbrev pub invariant-loop-slot : goal.invariant-loop-slot
invariant-loop-slot l =
    Puts l.initial.text (all_below (λ s. held_line l.maps l.map (get_or (held_in (directory l.maps l.map)) s None)) l.slot) l.text
