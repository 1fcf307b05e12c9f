use Rattle.std.proofs.Common.{ℕ, ◌<◌}
use Rattle.scx_verify_explain.specs.Lost.{IsOnlyOf}
use Rattle.scx_verify_explain.proofs.lost.comes_only.Given as goal

abbrev pub invariant-loop-other : goal.invariant-loop-other
invariant-loop-other l = (o : ℕ) → o < l.other → IsOnlyOf l.listing l.from o l.slot
