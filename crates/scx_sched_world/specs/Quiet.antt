-- Milliseconds in which nothing happens but that tasks run and the clock grows.
use Rattle.std.specs.Prelude.{◌≡◌, ℕ, zero, suc, ◌+◌, ◌-◌, ◌*◌, ◌<◌, ◌≤◌, nat_lt, length, if◌then◌else◌, Option, Some, None}
use Rattle.scx_weights.specs.Limits as limits
use Rattle.scx_isa_semantics.specs.declared.callbacks.Callback.TheVariants as callback
use Rattle.scx_sched_tasks.specs.Tasks.{after_many}
use Rattle.scx_sched_world.specs.declared.timers.Alarm.{Alarm}
use Rattle.scx_sched_world.specs.World.{WorldState, with_tree, task_at, with_task, running, is_by_linux, at_callback}
use Rattle.scx_sched_world.specs.Helpers.{alarm_at}
use Rattle.scx_sched_world.specs.Tasks.{tick_ns, begun_periods}

-- the task's groups have used that many milliseconds more
abbrev pub used_for : ℕ → WorldState → ℕ → WorldState
used_for n w t =
    if nat_lt t (length w.tasks) then with_tree w (limits.with_uses w.tree t n) else w

-- a task has run for that many milliseconds
abbrev pub ran_for : ℕ → WorldState → ℕ → WorldState
ran_for n w t = used_for n (with_task w t (after_many n (task_at w t))) t

-- a processor has ticked that many times: the task that runs there ran all the while, or none came,
-- though under plain rules dispatch was asked
abbrev pub ticked_for : ℕ → WorldState → ℕ → Option ℕ → WorldState
ticked_for n w c None = if is_by_linux w then w else at_callback w callback.Dispatch 0 c
ticked_for n w c (Some t) = ran_for n w t

-- each processor below that number has ticked that many times
abbrev pub all_ticked : ℕ → ℕ → WorldState → WorldState
all_ticked n zero w = w
all_ticked n (suc c) w = let v = all_ticked n c w in ticked_for n v c (running v c)

-- that many milliseconds have passed; periods begin at the last one
abbrev pub skipped : ℕ → WorldState → WorldState
skipped n w =
    let v = all_ticked n (length w.cpus) w in begun_periods (record v { clock = v.clock + n })

-- each running task has some of its slice left after that many milliseconds
abbrev pub SlicesLast : ℕ → WorldState → Type 0
SlicesLast n w = (c t : ℕ) → running w c ≡ Some t → n * tick_ns < (task_at w t).slice

-- up to that clock no task waits longer than the limit, no timer is due, and before it no period
-- begins; there is a usage for each group
pub record StaysCalm (w : WorldState) (limit : ℕ) (to : ℕ) : Type 0 where
  pub waits : (t n : ℕ) → (task_at w t).since ≡ Some n → to - n ≤ limit
  pub timers : (k : ℕ) (a : Alarm) → alarm_at w k ≡ Some a → to < a.due
  pub periods : limits.NoneBegins w.tree w.clock to
  pub even : length w.tree.usages ≡ length w.tree.groups
