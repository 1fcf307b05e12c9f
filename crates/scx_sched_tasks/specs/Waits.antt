-- How long tasks have waited, and who for longer than allowed.
use Rattle.std.specs.Prelude.{ℕ, ◌-◌, Bool, false, nat_lt, Option, Some, None}
use Rattle.scx_sched_tasks.specs.declared.task.Task.{Task}

-- how long since then; 0 where it isn't since any time
abbrev pub time_since : ℕ → Option ℕ → ℕ
time_since now None = 0
time_since now (Some n) = now - n

-- whether that is longer than the limit
abbrev pub is_late : ℕ → ℕ → Option ℕ → Bool
is_late now limit None = false
is_late now limit (Some n) = nat_lt limit (now - n)

-- the task has waited for too long
abbrev pub is_overdue : ℕ → ℕ → Task → Bool
is_overdue now limit x = is_late now limit x.since
