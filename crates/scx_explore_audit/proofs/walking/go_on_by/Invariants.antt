use Rattle.std.proofs.Common.{◌≡◌, All}
use Rattle.scx_explore_audit.specs.Claims.{IsTried}
use Rattle.scx_explore_audit.proofs.walking.go_on_by.Given as goal

-- the list begins where it did, and each event is tried
abbrev pub invariant-loop-place : goal.invariant-loop-place
invariant-loop-place l = record {
  root : l.path.root ≡ l.fn.path.root;
  room : l.path.room ≡ l.fn.path.room;
  tried : All (IsTried l.path.root) l.path.events;
}
