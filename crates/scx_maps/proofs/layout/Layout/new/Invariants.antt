use Rattle.std.proofs.Common.{◌≡◌, ◌<◌, ℕ, length, take, get_or}
use Rattle.scx_maps.specs.Limits.{total_bytes}
use Rattle.scx_maps.proofs.layout.Layout.new.Given as goal

abbrev pub invariant-loop-map : goal.invariant-loop-map
invariant-loop-map l = record {
  long : length l.starts ≡ 16;
  so_far : l.bytes ≡ total_bytes (take l.map l.shape-items);
  begins : (m : ℕ) → m < l.map → get_or l.starts m 0 ≡ total_bytes (take m l.shape-items);
}
