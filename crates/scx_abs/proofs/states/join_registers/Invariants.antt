use Rattle.std.proofs.Common.{◌≡◌, ◌<◌, ◌≤◌, ℕ, length, slice_index_or}
use Rattle.scx_abs.specs.declared.kinds.Kind.TheVariants.{Unusable}
use Rattle.scx_abs.specs.Kinds.{join_kind}
use Rattle.scx_abs.proofs.states.join_registers.Given as goal

abbrev pub invariant-loop-register : goal.invariant-loop-register
invariant-loop-register l = record {
  long : length l.registers ≡ 11;
  so_far : (k : ℕ) → k < l.register → slice_index_or l.registers k Unusable ≡ join_kind (slice_index_or l.fn.registers k Unusable) (slice_index_or l.others k Unusable);
  later : (k : ℕ) → l.register ≤ k → slice_index_or l.registers k Unusable ≡ slice_index_or l.fn.registers k Unusable;
}
