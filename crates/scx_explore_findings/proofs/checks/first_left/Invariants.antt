use Rattle.std.proofs.Common.{◌≡◌, ℕ, ◌<◌, false}
use Rattle.scx_explore_findings.specs.Findings.{waits_left}
use Rattle.scx_explore_findings.proofs.checks.first_left.Given as goal

-- nobody before that task waits for the policy
abbrev pub invariant-loop-task : goal.invariant-loop-task
invariant-loop-task l = (u : ℕ) → u < l.task → waits_left l.sim.state.world l.cpu u ≡ false
