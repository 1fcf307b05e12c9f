-- The records of tasks.
use Rattle.std.specs.Prelude.{ℕ, zero, suc, ◌==◌, ◌+◌, ◌-◌, if◌then◌else◌, None}
use Rattle.scx_sched_tasks.specs.declared.task.Task.{Task}

-- where there is no task all is 0, and nobody waits
abbrev pub no_task : Task
no_task = record { since = None; slice = 0; vtime = 0; prev_cpu = 0; run_ns = 0; builtin = 0 }

-- the slice that a task has at the start, in ns: 20 ms
abbrev pub default_slice : ℕ
default_slice = 20000000

-- at the start nobody waits
abbrev pub new_task : Task
new_task =
    record { since = None; slice = default_slice; vtime = 0; prev_cpu = 0; run_ns = 0; builtin = 0 }

-- the record of a task that has run for a millisecond more: a slice of 2^64 - 1 stays as it is
abbrev pub after_ms : Task → Task
after_ms x = record x {
  slice = if x.slice == 0xffff_ffff_ffff_ffff then x.slice else x.slice - 1000000;
  run_ns = x.run_ns + 1000000;
}

-- the record of a task that has run for that many milliseconds more
abbrev pub after_many : ℕ → Task → Task
after_many zero x = x
after_many (suc n) x = after_ms (after_many n x)
