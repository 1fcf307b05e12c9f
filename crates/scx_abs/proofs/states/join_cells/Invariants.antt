use Rattle.std.proofs.Common.{◌≡◌, ◌<◌, ◌≤◌, ℕ, [], length, slice_index_or}
use Rattle.scx_abs.specs.declared.kinds.Cell.TheVariants.{Bytes}
use Rattle.scx_abs.specs.Cells.{join_cell}
use Rattle.scx_abs.proofs.states.join_cells.Given as goal

abbrev pub invariant-loop-cell : goal.invariant-loop-cell
invariant-loop-cell l = record {
  long : length l.cells ≡ 64;
  so_far : (k : ℕ) → k < l.cell → slice_index_or l.cells k (Bytes []) ≡ join_cell (slice_index_or l.fn.cells k (Bytes [])) (slice_index_or l.others k (Bytes []));
  later : (k : ℕ) → l.cell ≤ k → slice_index_or l.cells k (Bytes []) ≡ slice_index_or l.fn.cells k (Bytes []);
}
