use Rattle.std.proofs.Common.{◌≡◌, ◌≤◌, length, vec_capacity}
use Rattle.scx_dsq.specs.Kept.{AreSameBelow}
use Rattle.scx_dsq.proofs.queues.live_with_room.Given as goal

-- those so far are the same
abbrev pub invariant-loop-at : goal.invariant-loop-at
invariant-loop-at l = record {
  count : length l.copy.items ≡ l.at;
  room : l.room ≤ vec_capacity l.copy;
  same : AreSameBelow l.tasks l.at l.live l.copy.items;
}
