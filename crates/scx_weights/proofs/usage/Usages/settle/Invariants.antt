use Rattle.std.proofs.Common.{◌≡◌, ℕ, ◌<◌, length, slice_index}
use Rattle.scx_weights.specs.Pending.{usages_in}
use Rattle.scx_weights.proofs.usage.Usages.settle.Given as goal

abbrev pub invariant-loop-home : goal.invariant-loop-home
invariant-loop-home l = record {
  beat : l.self.beat ≡ l.initial.self.beat;
  since : l.self.since ≡ l.initial.self.since;
  next : l.self.next ≡ l.initial.self.next;
  limited : l.self.limited ≡ l.initial.self.limited;
  used_length : length l.self.used.items ≡ length l.groups;
  pending_length : length l.self.pending.items ≡ length l.groups;
  settled : (h : ℕ) → h < l.home → slice_index l.self.pending.items h ≡ 0;
  counted : (g : ℕ) → g < length l.groups → slice_index (usages_in l.groups l.self.used.items l.self.pending.items) g ≡ slice_index (usages_in l.groups l.initial.self.used.items l.initial.self.pending.items) g;
}
