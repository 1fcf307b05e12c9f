use Rattle.std.proofs.Common.{◌-◌, ◌≤◌}
use Rattle.scx_isa_semantics.specs.Serving.{slot_count}
use Rattle.scxsim_simulation.proofs.map_places.slots_of.Given as goal

-- the elements so far are there
abbrev pub invariant-loop-slots : goal.invariant-loop-slots
invariant-loop-slots l = l.slots ≤ slot_count l.maps l.map

abbrev pub decreases-loop-slots : goal.decreases-loop-slots
decreases-loop-slots l = slot_count l.maps l.map - l.slots
