use Rattle.std.proofs.Common.{◌≡◌, ℕ, ◌+◌, ◌<◌, ◌≤◌, vec_len, vec_capacity}
use Rattle.scx_load_workloads.specs.Workload.{change_at}
use Rattle.scx_load_driver.specs.Blocks.{is_at, events_below, change_event}
use Rattle.scx_load_driver.proofs.blocks.find_changes.Given as goal

-- the changes of that millisecond so far, and none after it
abbrev pub invariant-loop-index : goal.invariant-loop-index
invariant-loop-index l = record {
  events : l.events.items ≡ events_below l.index (is_at l.changes l.now) (λ i. change_event (change_at l.changes i));
  few : vec_len l.events ≤ l.index;
  past : (i : ℕ) → i < l.index → (change_at l.changes i).at < l.now + 1;
  room : 1024 ≤ vec_capacity l.events;
}
