use Rattle.std.proofs.Common.{◌≡◌, ℕ, ◌<◌, ◌≤◌, length, get_or}
use Rattle.scx_sched_tasks.specs.Kept.{WaitNoLonger}
use Rattle.scx_sched_tasks.proofs.watch.Watch.refresh.Given as goal

-- the blocks so far are no earlier than what is found
abbrev pub invariant-loop-block : goal.invariant-loop-block
invariant-loop-block l = record {
  count : length l.self.blocks ≡ 32;
  least : (b : ℕ) → b < l.block → l.oldest ≤ get_or l.self.blocks b 0;
  each : (b : ℕ) → WaitNoLonger (get_or l.self.blocks b 0) b l.fn.records;
}
