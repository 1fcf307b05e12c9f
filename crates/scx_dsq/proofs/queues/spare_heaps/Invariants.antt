use Rattle.std.proofs.Common.{◌≡◌, [], length, All}
use Rattle.scx_dsq.proofs.queues.spare_heaps.Given as goal

abbrev pub invariant-loop : goal.invariant-loop
invariant-loop l = (length l.heaps.items ≡ l.counter) × All (λ heap. heap ≡ record { room = l.tasks; items = [] }) l.heaps.items
