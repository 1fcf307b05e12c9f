use Rattle.std.proofs.Common.{◌≡◌, ℕ, ◌<◌, ◌≤◌, length, get_or}
use Rattle.scx_dsq.specs.declared.queue.Queue.{Queue}
use Rattle.scx_dsq.specs.Kept.{IsCopy}
use Rattle.scx_dsq.proofs.queues.copy_each.Given as goal

-- those so far are copies, and the others as they were
abbrev pub invariant-loop-at : goal.invariant-loop-at
invariant-loop-at l = record {
  count : length l.live ≡ length l.fn.live;
  copies : (k : ℕ) (d : Queue) → k < l.at → IsCopy (get_or l.fn.live k d) (get_or l.fn.others k d) (get_or l.live k d);
  rest : (k : ℕ) (d : Queue) → l.at ≤ k → get_or l.live k d ≡ get_or l.fn.live k d;
}
