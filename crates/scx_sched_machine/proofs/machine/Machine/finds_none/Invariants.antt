use Rattle.std.proofs.Common.{ℕ, ◌<◌}
use Rattle.scx_sched_machine.specs.Quiet.{FindsNone}
use Rattle.scx_sched_machine.proofs.machine.Machine.finds_none.Given as goal

-- the processors so far
abbrev pub invariant-loop-cpu : goal.invariant-loop-cpu
invariant-loop-cpu l = (c : ℕ) → c < l.cpu → FindsNone l.self c
