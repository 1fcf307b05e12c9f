use Rattle.std.proofs.Common.{◌+◌, ◌*◌, ◌≤◌}
use Rattle.scx_dsq.specs.Heaps.{HasLeader}
use Rattle.scx_dsq.proofs.choosing.first_by_vtime.Given as goal

-- of the items so far
abbrev pub invariant-loop-at : goal.invariant-loop-at
invariant-loop-at g l = record {
  first : HasLeader (g.S.TaskSet.has l.tasks) l.items l.at l.first;
  cost : l.steps ≤ l.fn.steps + 2 * l.at;
}
