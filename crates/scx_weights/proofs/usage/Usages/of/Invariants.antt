use Rattle.std.proofs.Common.{◌≡◌, ◌+◌, slice_index}
use Rattle.scx_weights.specs.Counting.{sum_below}
use Rattle.scx_weights.specs.Pending.{pending_for}
use Rattle.scx_weights.proofs.usage.Usages.of.Given as goal

-- what was added up, and what is pending of the groups so far
abbrev pub invariant-loop-home : goal.invariant-loop-home
invariant-loop-home l = l.used ≡ slice_index l.self.used.items l.group + sum_below l.home (λ h. pending_for l.groups l.self.pending.items l.group h)
