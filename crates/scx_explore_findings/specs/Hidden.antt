-- Worlds in which something of the record of each task is hidden.
use Rattle.std.specs.Prelude.{ℕ, Bool, List, map, Option, None, if◌then◌else◌}
use Rattle.scx_sched_tasks.specs.declared.task.Task.{Task}
use Rattle.scx_sched_world.specs.World.{WorldState}

-- what is hidden: how long tasks have run, their virtual times, how long they wait
pub record Hidden : Type 0 where
  pub run_ns : Bool
  pub vtime : Bool
  pub waits : Bool

-- the number, or 0 where it is hidden
abbrev pub unless : Bool → ℕ → ℕ
unless b n = if b then 0 else n

-- the clock since when a task waits, or none where that is hidden
abbrev pub since_unless : Bool → Option ℕ → Option ℕ
since_unless b o = if b then None else o

-- the record of a task with other times: since when it waits, its virtual time, and for how long it
-- has run
abbrev pub with_times : Task → Option ℕ → ℕ → ℕ → Task
with_times x o v r = record x { since = o; vtime = v; run_ns = r }

-- the record of a task, with 0 or none for all that is hidden
abbrev pub hidden_in : Hidden → Task → Task
hidden_in h x =
    with_times x (since_unless h.waits x.since) (unless h.vtime x.vtime) (unless h.run_ns x.run_ns)

-- the same of each of them
abbrev pub all_hidden : Hidden → List Task → List Task
all_hidden h xs = map (hidden_in h) xs

-- the world with these records of tasks
abbrev pub with_tasks : WorldState → List Task → WorldState
with_tasks w xs = record w { tasks = xs }

-- the world without all that is hidden
abbrev pub hide : Hidden → WorldState → WorldState
hide h w = with_tasks w (all_hidden h w.tasks)
