use Rattle.std.proofs.Common.{take}
use Rattle.scx_explore_audit.specs.Claims.{AreFree}
use Rattle.scx_explore_audit.proofs.sorts.are_free.Given as goal

-- nothing of the sorts so far is shown
abbrev pub invariant-loop-at : goal.invariant-loop-at
invariant-loop-at l = AreFree (take l.at l.sorts) l.sim l.event
