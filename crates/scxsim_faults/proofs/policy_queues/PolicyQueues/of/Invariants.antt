use Rattle.std.proofs.Common.{◌≡◌, ◌≤◌}
use Rattle.scxsim_faults.specs.Queues.{listed, queues_below}
use Rattle.scxsim_faults.proofs.policy_queues.PolicyQueues.of.Given as goal

-- the policy's queues at the places so far are listed
abbrev pub invariant-loop-place : goal.invariant-loop-place
invariant-loop-place l = record {
  listed : listed l.queues ≡ queues_below l.place l.fn.world;
  few : l.queues.count ≤ 16;
}
