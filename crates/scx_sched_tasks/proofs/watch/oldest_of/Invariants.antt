use Rattle.std.proofs.Common.{◌≡◌, ◌<◌, ◌≤◌, ℕ, get_or, Some}
use Rattle.scx_sched_tasks.specs.Tasks.{no_task}
use Rattle.scx_sched_tasks.proofs.watch.oldest_of.Given as goal

-- not later than any of those so far
abbrev pub invariant-loop-facts : goal.invariant-loop-facts
invariant-loop-facts l = (i n : ℕ) → i < l.facts-index → (get_or l.fn.records i no_task).since ≡ Some n → l.oldest ≤ n
