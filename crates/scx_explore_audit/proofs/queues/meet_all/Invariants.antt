use Rattle.std.proofs.Common.{◌≡◌, All}
use Rattle.scx_explore_audit.specs.Claims.{IsTried}
use Rattle.scx_explore_audit.specs.Closed.{AreQueuesOf}
use Rattle.scx_explore_audit.proofs.queues.meet_all.Given as goal

-- the list begins where it did, each event is tried, and the queues that were met are those of the machine there
abbrev pub invariant-loop : goal.invariant-loop
invariant-loop l = record {
  root : l.path.root ≡ l.fn.path.root;
  room : l.path.room ≡ l.fn.path.room;
  tried : All (IsTried l.path.root) l.path.events;
  queues : AreQueuesOf l.fn.path.root l.met;
}
