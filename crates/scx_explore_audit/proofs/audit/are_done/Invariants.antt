use Rattle.std.proofs.Common.{◌≡◌, ℕ, length, All, get_or, true, false}
use Rattle.scx_explore_audit.specs.Claims.{IsTried}
use Rattle.scx_explore_audit.specs.Closed.{IsSettled, claim_of}
use Rattle.scx_explore_audit.proofs.audit.are_done.Given as goal

-- from no state that is marked a move leads out of the table
abbrev pub invariant-loop : goal.invariant-loop
invariant-loop l = record {
  root : l.path.root ≡ l.fn.path.root;
  room : l.path.room ≡ l.fn.path.room;
  tried : All (IsTried l.path.root) l.path.events;
  each : length l.marks ≡ length l.fn.marks;
  settled :
      (k : ℕ) → get_or l.marks k false ≡ true
      → IsSettled (claim_of l.charted) l.fn.path.root l.fn.path.room k;
}
