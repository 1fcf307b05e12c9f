-- The world that a policy's programs see and change, and its parts.
use Rattle.std.specs.Prelude.{◌≡◌, ℕ, zero, suc, Bool, true, false, ◌==◌, ◌&&◌, ◌||◌, not, nat_lt, List, [], ◌∷◌, ◌++◌, length, if◌then◌else◌, Option, Some, None, is_none, unwrap_or, slice_index_or, slice_set, position, replicate}
use Rattle.scx_dsq.specs.Queues.{QueueState, queue_of}
use Rattle.scx_weights.specs.Hierarchy.{Hierarchy, is_active_task, is_in_mask}
use Rattle.scx_weights.specs.Hierarchy as tree
use Rattle.scx_weights.specs.Counting.{any_below}
use Rattle.scx_weights.specs.Limits as limits
use Rattle.scx_isa_semantics.specs.declared.callbacks.Callback.{Callback}
use Rattle.scx_isa_semantics.specs.declared.callbacks.Callback.TheVariants as callback
use Rattle.scx_isa_semantics.specs.declared.rules.Rules.{Rules}
use Rattle.scx_isa_semantics.specs.declared.rules.Rules.TheVariants.{Plain, Linux}
use Rattle.scx_sched_world.specs.Ids.{parked_queue}
use Rattle.scx_sched_world.specs.declared.cpu_set.CpuSet.{CpuSet}
use Rattle.scx_sched_world.specs.declared.cpu_set.Marks.{Marks}
use Rattle.scx_sched_world.specs.CpuSets.{no_cpus, is_in_set, and_cpu, but_cpu}
use Rattle.scx_sched_world.specs.declared.notes.Note.{Note}
use Rattle.scx_sched_world.specs.declared.notes.What.{What}
use Rattle.scx_sched_tasks.specs.declared.task.Task.{Task}
use Rattle.scx_sched_tasks.specs.Tasks.{no_task}
use Rattle.scx_sched_tasks.specs.Waits.{time_since}
use Rattle.scx_sched_world.specs.declared.call.Call.{Call}
use Rattle.scx_sched_world.specs.declared.passing.Passing.{Passing}
use Rattle.scx_sched_world.specs.declared.passing.Switch.{Switch}
use Rattle.scx_sched_world.specs.declared.timers.Alarm.{Alarm}
use Rattle.scx_sched_world.specs.declared.eject.Eject.{Eject}

-- what a world is at one time, with tasks and processors by number and the clock in milliseconds
pub record WorldState : Type 0 where
  pub clock : ℕ
  pub tasks : List Task
  pub cpus : List (Option ℕ)  -- the task that runs on each processor
  pub cycling : Option ℕ  -- the processor on which a scheduling cycle is under way
  pub passing : Passing  -- what an event by Linux rules keeps until it ends
  pub rules : Rules  -- by whose rules the machine goes while the policy is in force
  pub claimed : CpuSet  -- processors chosen for a task, on which no cycle has begun since
  pub kicked : CpuSet  -- processors that look for work as the event ends
  pub preempted : CpuSet  -- those on which the task that runs loses its slice then
  pub tracks_idle : Bool  -- whether the host tells the policy which processors are idle
  pub timers : List (Option Alarm)  -- of each timer of the policy when it is due, if it was started
  pub random : ℕ  -- the number from which the next random one is made
  pub queues : QueueState
  pub tree : Hierarchy
  pub call : Call  -- the callback at hand, or the last one
  pub builtin_clock : ℕ  -- the virtual time of the built-in scheduler
  pub ejected : Option Eject  -- why and when the policy was put out of force, if it was
  pub notes : List Note  -- what was noted and not handed on yet

-- both worlds have the same queues, room for as many, and as many tasks, processors and groups
pub record IsLike (v w : WorldState) : Type 0 where
  pub tasks : length v.tasks ≡ length w.tasks
  pub cpus : length v.cpus ≡ length w.cpus
  pub room : v.queues.room ≡ w.queues.room
  pub queues : v.queues.ids ≡ w.queues.ids
  pub groups : length v.tree.groups ≡ length w.tree.groups
  pub timers : length v.timers ≡ length w.timers

-- ---- the rules

-- whether rules are those of a kernel
abbrev pub are_linux : Rules → Bool
are_linux Plain = false
are_linux Linux = true

-- whether the machine goes by Linux rules: the policy does, and is in force
abbrev pub is_by_linux : WorldState → Bool
is_by_linux w = are_linux w.rules && is_none w.ejected

-- the world with these rules
abbrev pub with_rules : WorldState → Rules → WorldState
with_rules w r = record w { rules = r }

-- the world whose host tells the policy which processors are idle, or doesn't
abbrev pub with_tracking : WorldState → Bool → WorldState
with_tracking w b = record w { tracks_idle = b }

-- the world with that number of timers, none of which was started
abbrev pub with_timers : WorldState → ℕ → WorldState
with_timers w n = record w { timers = replicate n None }

-- the world whose random numbers are made from that one
abbrev pub with_random : WorldState → ℕ → WorldState
with_random w n = record w { random = n }

-- ---- one part changed

-- between events Linux rules keep nothing of the one before
abbrev pub nothing_passes : Passing
nothing_passes = record { slept = None; switching = None; waker = None; timer = None }

-- the world with that processor to look for work as the event ends
abbrev pub with_kick : WorldState → ℕ → WorldState
with_kick w c = record w { kicked = and_cpu w.kicked c }

-- the same, with the slice of the task that runs there to be taken first
abbrev pub with_preemption : WorldState → ℕ → WorldState
with_preemption w c = record (with_kick w c) { preempted = and_cpu w.preempted c }

-- the processor looks for work: it was kicked no more
abbrev pub without_kick : WorldState → ℕ → WorldState
without_kick w c =
    record w { kicked = but_cpu w.kicked c; preempted = but_cpu w.preempted c }

-- the world with no processor claimed, kicked or preempted
abbrev pub without_marks : WorldState → WorldState
without_marks w = record w { claimed = no_cpus; kicked = no_cpus; preempted = no_cpus }

-- its processors that are claimed, kicked and preempted
abbrev pub marks_of : WorldState → Marks
marks_of w = record { claimed = w.claimed; kicked = w.kicked; preempted = w.preempted }

-- the world with these dispatch queues
abbrev pub with_queues : WorldState → QueueState → WorldState
with_queues w x = record w { queues = x }

-- the world with these groups, weights and active tasks
abbrev pub with_tree : WorldState → Hierarchy → WorldState
with_tree w x = record w { tree = x }

-- ---- tasks and processors

-- the record of a task; where there is no such task all is 0, and it doesn't wait
abbrev pub task_at : WorldState → ℕ → Task
task_at w t = slice_index_or w.tasks t no_task

-- past the end nothing is changed
abbrev pub with_task : WorldState → ℕ → Task → WorldState
with_task w t x = record w { tasks = slice_set w.tasks t x }

-- whether a task is runnable, as from a wake until it sleeps; false where there is no such task
abbrev pub is_runnable : WorldState → ℕ → Bool
is_runnable w t = is_active_task w.tree t

-- the group of the task has used all that it may, or one that this lies below
abbrev pub is_throttled : WorldState → ℕ → Bool
is_throttled w t = nat_lt t (length w.tasks) && limits.is_throttled w.tree t

-- in the queue of parked tasks nobody waits
abbrev pub waits_in : Option ℕ → Bool
waits_in None = false
waits_in (Some q) = not (q == parked_queue)

-- the task waits in a queue
abbrev pub waits : WorldState → ℕ → Bool
waits w t = waits_in (queue_of w.queues t)

-- How long a task has waited: the clock less the clock at which it woke or was stopped last, or was
-- let go since. A task that runs, sleeps or is parked doesn't wait.
abbrev pub wait : WorldState → ℕ → ℕ
wait w t = time_since w.clock (task_at w t).since

-- the task that runs on a processor
abbrev pub running : WorldState → ℕ → Option ℕ
running w c = slice_index_or w.cpus c None

-- a processor runs that task, or none; where there is no such processor nothing is changed
abbrev pub with_cpu : WorldState → ℕ → Option ℕ → WorldState
with_cpu w c o = record w { cpus = slice_set w.cpus c o }

-- the first switch, if there is one, else the second one
abbrev pub or_switch : Option Switch → Switch → Option Switch
or_switch None s = Some s
or_switch (Some x) s = Some x

-- the processor switches from the task that runs there, unless a switch is under way
abbrev pub switch_at : WorldState → ℕ → Option Switch
switch_at w c = or_switch w.passing.switching (record { cpu = c; from = running w c })

-- under Linux rules a processor begins to switch: for helpers the task that runs there stays the
-- current one until a cycle there ends (core.c, `__schedule`)
abbrev pub with_switch : WorldState → ℕ → WorldState
with_switch w c =
    if is_by_linux w
    then record w { passing = record w.passing { switching = switch_at w c } }
    else w

-- a cycle begins on that processor, on which a claim ends; with none, a cycle ends, and what was
-- kept for it is forgotten
abbrev pub cycling_by_linux : WorldState → Option ℕ → WorldState
cycling_by_linux w None = record w { cycling = None; passing = nothing_passes }
cycling_by_linux w (Some c) =
    record (with_switch w c) { cycling = Some c; claimed = but_cpu w.claimed c }

-- the world with a scheduling cycle under way on that processor, or with none
abbrev pub with_cycling : WorldState → Option ℕ → WorldState
with_cycling w x = if is_by_linux w then cycling_by_linux w x else record w { cycling = x }

-- the world with that task gone to sleep from the processor on which a cycle is to begin
abbrev pub with_slept : WorldState → ℕ → WorldState
with_slept w t = record w { passing = record w.passing { slept = Some t } }

-- the world with a task woken from that processor, or with none
abbrev pub with_waker : WorldState → Option ℕ → WorldState
with_waker w o = record w { passing = record w.passing { waker = o } }

-- the world with the callback of that timer at hand, or of none
abbrev pub with_timer_at_hand : WorldState → Option ℕ → WorldState
with_timer_at_hand w o = record w { passing = record w.passing { timer = o } }

-- the cycle that is under way ends; what was kept for it is known until what follows it has ended
abbrev pub out_of_cycle : WorldState → WorldState
out_of_cycle w = record w { cycling = None }

-- whether a task or a processor is the given one; false where none is given
abbrev pub is_this : ℕ → Option ℕ → Bool
is_this t None = false
is_this t (Some u) = t == u

-- the processor on which the task runs
abbrev pub cpu_of : WorldState → ℕ → Option ℕ
cpu_of w t = position (is_this t) w.cpus

-- the current task of a processor, where such a switch is under way
abbrev pub current_in : Option Switch → WorldState → ℕ → Option ℕ
current_in None w c = running w c
current_in (Some s) w c = if s.cpu == c then s.from else running w c

-- the task that helpers are told is current on a processor: who ran there as the last cycle on it
-- ended
abbrev pub current : WorldState → ℕ → Option ℕ
current w c = current_in w.passing.switching w c

-- whether the task is current on one of the processors
abbrev pub is_current : WorldState → ℕ → Bool
is_current w t = any_below (length w.cpus) (λ c. is_this t (current w c))

-- a processor is idle where no task runs and no cycle is under way
abbrev pub is_idle : WorldState → ℕ → Bool
is_idle w c = nat_lt c (length w.cpus) && is_none (running w c) && not (is_this c w.cycling)

-- a processor where the test holds, else none
abbrev pub this_if : Bool → ℕ → Option ℕ
this_if b c = if b then Some c else None

-- the first processor, if there is one, else the second one, if there is one
abbrev pub or_this : Option ℕ → Option ℕ → Option ℕ
or_this None o = o
or_this (Some c) o = Some c

-- whether the processor was chosen for a task, and no cycle has begun there since; under plain
-- rules a choice claims nothing (ext/idle.c, `scx_idle_test_and_clear_cpu`)
abbrev pub is_claimed : WorldState → ℕ → Bool
is_claimed w c = is_by_linux w && is_in_set w.claimed c

-- whether no task runs on the processor, and none is on its way to it
abbrev pub is_free : WorldState → ℕ → Bool
is_free w c = is_idle w c && not (is_claimed w c)

-- ---- where tasks may run

-- whether tasks are bound to processors: under Linux rules, also once the policy is out of force
abbrev pub binds : WorldState → Bool
binds w = are_linux w.rules && tree.binds w.tree

-- whether a task may run on a processor (core.c, `is_cpu_allowed`)
abbrev pub may_run : WorldState → ℕ → ℕ → Bool
may_run w t c = not (binds w) || is_in_mask w.tree t c

-- the lowest processor below that number for which the test holds
abbrev pub lowest_below : ℕ → (ℕ → Bool) → Option ℕ
lowest_below zero p = None
lowest_below (suc n) p = or_this (lowest_below n p) (this_if (p n) n)

-- the lowest processor for which the test holds, if there is one
abbrev pub lowest_cpu : WorldState → (ℕ → Bool) → Option ℕ
lowest_cpu w p = lowest_below (length w.cpus) p

-- the lowest processor on which a bound task may run; 0 for others
abbrev pub first_home : WorldState → ℕ → ℕ
first_home w t = if binds w then unwrap_or (lowest_cpu w (is_in_mask w.tree t)) 0 else 0

-- whether a bound task may run on the last processor, which isn't the one before
abbrev pub is_in_mask_but : WorldState → ℕ → ℕ → ℕ → Bool
is_in_mask_but w t c d = is_in_mask w.tree t d && not (d == c)

-- whether there is one processor alone on which the task may run
abbrev pub has_one_cpu : WorldState → ℕ → Bool
has_one_cpu w t =
    if binds w then is_none (lowest_cpu w (is_in_mask_but w t (first_home w t)))
    else length w.cpus == 1

-- ---- the choice of a processor

-- whether the processor may be chosen for that task
abbrev pub is_free_for : WorldState → ℕ → ℕ → Bool
is_free_for w t c = may_run w t c && is_free w c

-- the processor of the task if it is free, else the lowest free one, of those on which it may run,
-- if there is one
abbrev pub free_choice : WorldState → ℕ → Option ℕ
free_choice w t =
    let prev = (task_at w t).prev_cpu in
    if is_free_for w t prev then Some prev else lowest_cpu w (is_free_for w t)

-- the processor that the host chooses for a task, if one is free; none where it doesn't track which
-- are (ext/idle.c, `check_builtin_idle_enabled`)
abbrev pub choice : WorldState → ℕ → Option ℕ
choice w t = if w.tracks_idle then free_choice w t else None

-- the processor that the host chooses for a task, else the task's own
abbrev pub default_choice : WorldState → ℕ → ℕ
default_choice w t = unwrap_or (choice w t) (task_at w t).prev_cpu

-- under Linux rules the processor that is chosen is claimed, by the callback at hand
abbrev pub after_claim : WorldState → Option ℕ → WorldState
after_claim w None = w
after_claim w (Some c) =
    if is_by_linux w
    then record w {
      claimed = and_cpu w.claimed c;
      call = record w.call { claims = and_cpu w.call.claims c };
    }
    else w

-- ---- the callback at hand

-- what is at hand before the first callback
abbrev pub no_call : Call
no_call = record {
  callback = callback.Plain;
  task = 0;
  cpu = 0;
  insert = None;
  has_moved = false;
  cause = None;
  claims = no_cpus;
}

-- no notes of a callback are left
abbrev pub quiet : WorldState → WorldState
quiet w = record w { notes = [] }

-- a callback begins, with that task and processor at hand
abbrev pub at_callback : WorldState → Callback → ℕ → ℕ → WorldState
at_callback w b t c =
    record (quiet w) { call = record no_call { callback = b; task = t; cpu = c } }

-- the processor on which the callback at hand runs: for callbacks of a wake the one from which the
-- task is woken, else the processor at hand
abbrev pub here : WorldState → ℕ
here w = unwrap_or w.passing.waker w.call.cpu

-- what is noted now
abbrev pub note_now : WorldState → What → Note
note_now w x = record { clock = w.clock; what = x }

-- the callback at hand has noted one thing more, at this clock
abbrev pub with_note : WorldState → What → WorldState
with_note w x = record w { notes = w.notes ++ note_now w x ∷ [] }
