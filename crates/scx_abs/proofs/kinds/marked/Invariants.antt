use Rattle.std.proofs.Common.{◌≡◌, ℕ, ◌&&◌, ◌||◌, nat_le, nat_lt, length}
use Rattle.scx_abs.specs.Cells.{is_written}
use Rattle.scx_abs.proofs.kinds.marked.Given as goal

abbrev pub invariant-loop-byte : goal.invariant-loop-byte
invariant-loop-byte l = record {
  long : length l.marked ≡ 8;
  so_far : (k : ℕ) → is_written l.marked k ≡ (is_written l.fn.set k || (nat_le l.fn.first k && nat_lt k l.byte));
}
