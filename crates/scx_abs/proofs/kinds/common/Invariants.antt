use Rattle.std.proofs.Common.{◌≡◌, ◌<◌, ℕ, ◌&&◌, length}
use Rattle.scx_abs.specs.Cells.{is_written}
use Rattle.scx_abs.proofs.kinds.common.Given as goal

abbrev pub invariant-loop-byte : goal.invariant-loop-byte
invariant-loop-byte l = record {
  long : length l.common ≡ 8;
  so_far : (k : ℕ) → k < l.byte → is_written l.common k ≡ (is_written l.first k && is_written l.second k);
}
