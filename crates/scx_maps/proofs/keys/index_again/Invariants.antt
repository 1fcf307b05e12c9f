use Rattle.std.proofs.Common.{◌≡◌, ℕ, ◌+◌, ◌≤◌, None, length, take}
use Rattle.indexmap.specs.IndexMap.{index_map_len, spare}
use Rattle.scx_isa_semantics.specs.Directories.{slot_of}
use Rattle.scx_maps.specs.Keeping.{live, finds, LeadsTo}
use Rattle.scx_maps.proofs.keys.index_again.Given as goal

abbrev pub invariant-loop-slot : goal.invariant-loop-slot
invariant-loop-slot l = record {
  led : LeadsTo l.index (take l.slot l.held);
  few : index_map_len l.index ≤ live (take l.slot l.held);
  room : length l.held + length l.held ≤ index_map_len l.index + spare l.index;
  absent : (key : ℕ) → slot_of (take l.slot l.held) key ≡ None → finds l.index key ≡ None;
}
