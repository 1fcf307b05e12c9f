-- The number of others that are taken out of the queue of a task.
use Rattle.std.specs.Prelude.{ℕ, ◌+◌, ◌-◌, ◌^◌, min, ◌==◌, ◌&&◌, not, if◌then◌else◌}
use Rattle.scxsim_waits.specs.declared.task_queues.Taken.{Taken}

-- one more where it is another task out of that queue; the count stays at its greatest number
abbrev pub taken_with : ℕ → ℕ → Taken → ℕ → ℕ
taken_with t q x n =
    if x.queue == q && not (x.task == t) then min (n + 1) (2 ^ 64 - 1) else n
