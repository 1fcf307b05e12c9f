-- What an event does to tasks, one step at a time.
use Rattle.std.specs.Prelude.{ℕ, true, false, ◌==◌, ◌&&◌, nat_lt, nat_le, ◌+◌, ◌-◌, ◌%◌, ◌^◌, length, if◌then◌else◌, Option, Some, None, is_none}
use Rattle.scx_dsq.specs.Queues.{QueueState, only, front_of, len_of}
use Rattle.scx_dsq.specs.Calls.{after_push, after_pop, after_remove}
use Rattle.scx_dsq.specs.declared.entries.Rank.{Rank}
use Rattle.scx_dsq.specs.declared.entries.Rank.TheVariants.{Fifo, Front, Vtime}
use Rattle.scx_weights.specs.Hierarchy as tree
use Rattle.scx_weights.specs.Hierarchy.{is_in_mask}
use Rattle.scx_weights.specs.Limits as limits
use Rattle.scx_weights.specs.Refusals.{weight_fault, own_weight_fault}
use Rattle.scx_sched_world.specs.declared.call.Insert.{Insert}
use Rattle.scx_sched_tasks.specs.declared.task.Task.{Task}
use Rattle.scx_sched_tasks.specs.Tasks.{default_slice}
use Rattle.scx_sched_world.specs.Ids.{global, local, held_queue, parked_queue, local_on}
use Rattle.scx_sched_world.specs.World.{WorldState, with_queues, with_tree, with_kick, is_by_linux, task_at, with_task, is_throttled, running, with_cpu, is_this, binds}

-- ---- one field of a task changed

-- the record of a task that waits since that clock, or doesn't wait
abbrev pub with_since : Task → Option ℕ → Task
with_since x o = record x { since = o }

-- the record of a task with that much left of its slice, in nanoseconds
abbrev pub with_slice : Task → ℕ → Task
with_slice x n = record x { slice = n }

-- the record of a task with that virtual time, as programs see it
abbrev pub with_vtime : Task → ℕ → Task
with_vtime x n = record x { vtime = n }

-- the record of a task with that virtual time under the built-in scheduler
abbrev pub with_builtin : Task → ℕ → Task
with_builtin x n = record x { builtin = n }

-- the record of a task whose processor is that one
abbrev pub with_home : Task → ℕ → Task
with_home x c = record x { prev_cpu = c }

-- ---- waking, sleeping, waiting

-- a task that wakes waits from now on
abbrev pub after_wake : WorldState → ℕ → WorldState
after_wake w t =
    with_tree (with_task w t (with_since (task_at w t) (Some w.clock)))
    (tree.with_task w.tree t true)

-- a task that sleeps waits no more
abbrev pub after_sleep : WorldState → ℕ → WorldState
after_sleep w t =
    if nat_lt t (length w.tasks)
    then with_tree (with_task w t (with_since (task_at w t) None)) (tree.with_task w.tree t false)
    else w

-- the task leaves the queue in which it waits
abbrev pub after_leave : WorldState → ℕ → WorldState
after_leave w t = with_queues w (after_remove w.queues t)

-- ---- the processor of a task

-- under Linux rules a task's processor is the one that is chosen for it, and that of a local queue
-- as it comes in (ext.c, `move_remote_task_to_local_dsq`); under plain rules it is the one on which
-- it ran last
abbrev pub homed : WorldState → ℕ → ℕ → WorldState
homed w t c = if is_by_linux w then with_task w t (with_home (task_at w t) c) else w

-- the processor of a local queue; none of another
abbrev pub local_cpu : WorldState → ℕ → Option ℕ
local_cpu w q =
    if nat_le (local_on 0) q && nat_lt q (local_on (length w.cpus)) then Some (q - local_on 0)
    else None

-- that processor, if there is one, is the task's
abbrev pub homed_at : WorldState → ℕ → Option ℕ → WorldState
homed_at w t None = w
homed_at w t (Some c) = homed w t c

-- the task comes to the end of the local queue of the processor
abbrev pub after_local : WorldState → ℕ → ℕ → WorldState
after_local w c t = homed (with_queues w (after_push w.queues (local_on c) t Fifo)) t c

-- ---- what an insert asks for

-- a slice of 0 keeps the one that there is; under Linux rules it makes 1 of 0 (ext.c,
-- `apply_slice_vtime`)
abbrev pub given_slice : Task → Insert → Task
given_slice x i =
    if i.slice == 0 then (if i.refills && (x.slice == 0) then with_slice x 1 else x)
    else with_slice x i.slice

-- by virtual time it has that one from then on
abbrev pub given_vtime : Task → Rank → Task
given_vtime x Fifo = x
given_vtime x Front = x
given_vtime x (Vtime n) = with_vtime x n

-- what an insert makes of the record of its task
abbrev pub task_after_insert : Task → Insert → Task
task_after_insert x i = given_vtime (given_slice x i) i.rank

-- the key by which a queue of the policy orders a virtual time: under Linux rules times compare as
-- signed numbers (ext.c, `scx_dsq_priq_less`)
abbrev pub key_by : WorldState → ℕ → ℕ
key_by w n = if is_by_linux w then (n + 2 ^ 63) % 2 ^ 64 else n

-- the rank by which a task is pushed that is to have that one
abbrev pub rank_by : WorldState → Rank → Rank
rank_by w Fifo = Fifo
rank_by w Front = Front
rank_by w (Vtime n) = Vtime (key_by w n)

-- the task that runs on a processor loses its slice, and the processor looks for work as the event
-- ends; not where its own cycle is under way (ext.c, `rq_owned_post_enq`)
abbrev pub after_preempt_of : WorldState → ℕ → Option ℕ → WorldState
after_preempt_of w c None = w
after_preempt_of w c (Some t) =
    if is_this c w.cycling then w
    else with_kick (with_task w t (with_slice (task_at w t) 0)) c

-- of that processor, if there is one
abbrev pub after_preempt_at : WorldState → Option ℕ → WorldState
after_preempt_at w None = w
after_preempt_at w (Some c) = after_preempt_of w c (running w c)

-- what an insert that preempts does besides, where its queue is a local one
abbrev pub after_preempt : WorldState → Insert → WorldState
after_preempt w i = if i.preempts then after_preempt_at w (local_cpu w i.queue) else w

-- a task comes into the queue of an insert, and where that is a local one, Linux rules make its
-- processor the task's
abbrev pub queued_by : WorldState → ℕ → Insert → WorldState
queued_by w t i =
    homed_at (with_queues w (after_push w.queues i.queue t (rank_by w i.rank)))
    t (local_cpu w i.queue)

-- a task goes into a queue, as an insert wants it to
abbrev pub after_enter : WorldState → ℕ → Insert → WorldState
after_enter w t i =
    if nat_lt t (length w.tasks)
    then after_preempt (homed_at
    (with_queues (with_task w t (task_after_insert (task_at w t) i))
    (after_push w.queues i.queue t (rank_by w i.rank)))
    t (local_cpu w i.queue)) i
    else w

-- ---- inserts

-- LOCAL is the local queue of that processor
abbrev pub queue_for : ℕ → ℕ → ℕ
queue_for c q = if q == local then local_on c else q

-- the same insert, where LOCAL is the local queue of that processor
abbrev pub for_cpu : ℕ → Insert → Insert
for_cpu c i = record i { queue = queue_for c i.queue }

-- of a task that a policy took and put nowhere
abbrev pub to_held : Insert
to_held = record {
  queue = held_queue;
  slice = 0;
  rank = Fifo;
  preempts = false;
  refills = false;
}

-- of a task that any processor may run
abbrev pub to_global : Insert
to_global = record {
  queue = global;
  slice = default_slice;
  rank = Fifo;
  preempts = false;
  refills = false;
}

-- of a task for which a processor was chosen by default (ext.c, `select_task_rq_scx`)
abbrev pub to_local : ℕ → Insert
to_local c = record {
  queue = local_on c;
  slice = default_slice;
  rank = Fifo;
  preempts = false;
  refills = false;
}

-- of a task that is stopped with some of its slice left (ext.c, `put_prev_task_scx`)
abbrev pub to_front : ℕ → Insert
to_front c = record {
  queue = local_on c;
  slice = 0;
  rank = Front;
  preempts = false;
  refills = false;
}

-- ---- local queues

-- how many tasks wait in the local queue of a processor
abbrev pub local_len : WorldState → ℕ → ℕ
local_len w c = len_of w.queues (local_on c)

-- the queues as that processor sees them: who may not run there is passed over (ext.c,
-- `scx_consume_dispatch_q`)
abbrev pub seen_from : WorldState → ℕ → QueueState
seen_from w c = if binds w then only (λ t. is_in_mask w.tree t c) w.queues else w.queues

-- the first task of a queue that may run on that processor
abbrev pub next_for : WorldState → ℕ → ℕ → Option ℕ
next_for w q c = front_of (seen_from w c) q

-- a task goes from its queue to a local one, if there is one
abbrev pub brought : Option ℕ → WorldState → ℕ → WorldState
brought None w c = w
brought (Some t) w c = after_local (after_leave w t) c t

-- the task that comes to the local queue, where that is empty
abbrev pub fill_front : WorldState → ℕ → ℕ → Option ℕ
fill_front w q c = if nat_lt 0 (local_len w c) then None else next_for w q c

-- that task where tasks aren't bound: the front
abbrev pub unbound_front : WorldState → ℕ → ℕ → Option ℕ
unbound_front w q c = if nat_lt 0 (local_len w c) then None else front_of w.queues q

-- the first task of a queue that may run on the processor goes to its local queue, where that is
-- empty; else nothing is changed
abbrev pub after_fill : WorldState → ℕ → ℕ → WorldState
after_fill w q c = brought (fill_front w q c) w c

-- ---- on and off processors

-- a task leaves its processor, and waits from now on
abbrev pub after_stop : WorldState → ℕ → ℕ → WorldState
after_stop w c t = with_cpu (with_task w t (with_since (task_at w t) (Some w.clock))) c None

-- a task that runs waits no more
abbrev pub on_cpu : Task → ℕ → Task
on_cpu x c = record x { since = None; prev_cpu = c }

-- that task, the front of the local queue, leaves it and runs on the processor; or none does
abbrev pub started_at : Option ℕ → WorldState → ℕ → WorldState
started_at None w c = w
started_at (Some t) w c =
    with_cpu
    (with_task (with_queues w (after_pop w.queues (local_on c))) t (on_cpu (task_at w t) c))
    c (Some t)

-- that task runs on the processor, from wherever it waits
abbrev pub after_run : WorldState → ℕ → ℕ → WorldState
after_run w c t =
    with_cpu (with_task (after_leave w t) t (on_cpu (task_at w t) c)) c (Some t)

-- the front of the local queue runs
abbrev pub after_start : WorldState → ℕ → WorldState
after_start w c = started_at (front_of w.queues (local_on c)) w c

-- the record of a task that keeps its processor: one whose slice has run out gets a new one
abbrev pub with_new_slice : Task → Task
with_new_slice x = if x.slice == 0 then with_slice x default_slice else x

-- the task before keeps the processor, with a slice
abbrev pub after_keep : WorldState → Option ℕ → WorldState
after_keep w None = w
after_keep w (Some t) = with_task w t (with_new_slice (task_at w t))

-- a slice that is one nanosecond longer; one that never ends stays
abbrev pub longer : ℕ → ℕ
longer n = if nat_lt n (2 ^ 64 - 2) then n + 1 else n

-- the task that begins to run has a slice one nanosecond longer, as a switch takes time
abbrev pub after_switch : WorldState → ℕ → WorldState
after_switch w t = with_task w t (with_slice (task_at w t) (longer (task_at w t).slice))

-- the task that runs has no slice left
abbrev pub after_cut_off : WorldState → ℕ → WorldState
after_cut_off w t = with_task w t (with_slice (task_at w t) 0)

-- ---- parking

-- the task at hand may not run, and is parked: it waits no more
abbrev pub put_parked : WorldState → ℕ → WorldState
put_parked w t =
    if nat_lt t (length w.tasks)
    then with_queues (with_task w t (with_since (task_at w t) None))
    (after_push w.queues parked_queue t Fifo)
    else w

-- the front of a queue leaves it
abbrev pub after_take : WorldState → ℕ → WorldState
after_take w q = with_queues w (after_pop w.queues q)

-- the task is parked no more, and waits from now on
abbrev pub let_go : WorldState → ℕ → WorldState
let_go w t = after_leave (with_task w t (with_since (task_at w t) (Some w.clock))) t

-- ---- time and weights

-- how long a task runs in one tick, in nanoseconds: a millisecond
abbrev pub tick_ns : ℕ
tick_ns = 1000000

-- a slice of 2^64 - 1 isn't counted down
abbrev pub counted_down : ℕ → ℕ
counted_down n = if n == 0xffff_ffff_ffff_ffff then n else n - tick_ns

-- the record of a task that has run for one more tick
abbrev pub ran_a_tick : Task → Task
ran_a_tick x = record x { slice = counted_down x.slice; run_ns = x.run_ns + tick_ns }

-- a task has run for one more tick
abbrev pub after_tick : WorldState → ℕ → WorldState
after_tick w t = with_task w t (ran_a_tick (task_at w t))

-- the clock is a millisecond later
abbrev pub later : WorldState → WorldState
later w = record w { clock = w.clock + 1 }

-- the task's groups have used a millisecond more
abbrev pub used_ms : WorldState → ℕ → WorldState
used_ms w t = if nat_lt t (length w.tasks) then with_tree w (limits.with_use w.tree t) else w

-- what is left of the slice of a task; none where it may not run
abbrev pub slice_left : WorldState → ℕ → Option ℕ
slice_left w t = if is_throttled w t then None else Some (task_at w t).slice

-- periods of groups begin at this clock
abbrev pub begun_periods : WorldState → WorldState
begun_periods w = with_tree w (limits.with_turn w.tree w.clock)

-- a weight that can't be set changes nothing
abbrev pub after_reweigh : WorldState → ℕ → ℕ → WorldState
after_reweigh w g x =
    if is_none (weight_fault w.tree g x) then with_tree w (tree.with_weight w.tree g x) else w

-- the task has that weight itself; one that can't be set changes nothing
abbrev pub after_own_weight : WorldState → ℕ → ℕ → WorldState
after_own_weight w t x =
    if is_none (own_weight_fault w.tree t x) then with_tree w (tree.with_own_weight w.tree t x)
    else w
