use Rattle.std.proofs.Common.{ℕ, ◌<◌}
use Rattle.scx_explore_states.specs.Written.{AreAlike, task_in}
use Rattle.scx_explore_states.proofs.written.are_alike.Given as goal

-- at each place so far is a task that is like the one whose own it is
abbrev pub invariant-loop-place : goal.invariant-loop-place
invariant-loop-place l = (p : ℕ) → p < l.place → AreAlike l.sim.state.world (task_in l.order p) p
