use Rattle.std.proofs.Common.{◌≡◌, take}
use Rattle.std.specs.Vec.{vec_capacity}
use Rattle.scx_maps.proofs.keys.copy_slots.Given as goal

abbrev pub invariant-loop-slot : goal.invariant-loop-slot
invariant-loop-slot l = record {
  items : l.slots.items ≡ take l.slot-index l.others;
  capacity : vec_capacity l.slots ≡ vec_capacity l.fn.slots;
}
