use Rattle.std.proofs.Common.{◌≡◌, drop}
use Rattle.scx_isa_semantics.specs.Callbacks.{callbacks}
use Rattle.scx_sched_policy.proofs.Copying.{copied}
use Rattle.scx_sched_policy.proofs.policy.set_duplicates.Given as goal

-- once the others are copied, too, all are
abbrev pub invariant-loop-callback : goal.invariant-loop-callback
invariant-loop-callback l = copied l.callbacks (drop l.callback-index callbacks) l.copies ≡ l.callbacks
