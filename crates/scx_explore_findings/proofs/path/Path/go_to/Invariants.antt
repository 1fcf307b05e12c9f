use Rattle.std.proofs.Common.{◌≡◌, take}
use Rattle.scx_explore_findings.proofs.path.Path.go_to.Given as goal

-- the list is so much of the other one
abbrev pub invariant-loop-depth : goal.invariant-loop-depth
invariant-loop-depth l = record {
  root : l.self.root ≡ l.fn.self.root;
  room : l.self.room ≡ l.fn.self.room;
  events : l.self.events ≡ take l.depth l.events;
}
