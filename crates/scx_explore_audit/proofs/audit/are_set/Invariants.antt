use Rattle.std.proofs.Common.{◌≡◌, All, take, true}
use Rattle.scx_explore_audit.proofs.audit.are_set.Given as goal

-- the marks so far are set
abbrev pub invariant-loop-at : goal.invariant-loop-at
invariant-loop-at l = All (λ mark. mark ≡ true) (take l.at l.marks)
