-- The first world: nobody runs or waits, and the machine's own queues are there.
use Rattle.std.specs.Prelude.{ℕ, zero, suc, ◌+◌, true, [], length, replicate, if◌then◌else◌, None}
use Rattle.scx_dsq.specs.Queues.{QueueState}
use Rattle.scx_dsq.specs.Calls.{after_create, empty}
use Rattle.scx_weights.specs.Hierarchy.{Hierarchy}
use Rattle.scx_isa_semantics.specs.declared.rules.Rules.TheVariants.{Plain}
use Rattle.scx_sched_tasks.specs.Tasks.{new_task}
use Rattle.scx_sched_world.specs.CpuSets.{no_cpus}
use Rattle.scx_sched_world.specs.Ids.{global, held_queue, builtin_queue, parked_queue, local_on}
use Rattle.scx_sched_world.specs.World.{WorldState, nothing_passes, no_call, task_at, with_task, binds, first_home}
use Rattle.scx_sched_world.specs.Tasks.{with_home}

-- a local queue for each processor
abbrev pub with_locals : ℕ → QueueState → QueueState
with_locals zero s = s
with_locals (suc n) s = after_create (with_locals n s) (local_on n)

-- there is room for 16 queues of the policy
abbrev pub own_queues : ℕ → ℕ → QueueState
own_queues cpus tasks =
    after_create (after_create
    (after_create (after_create (empty (20 + cpus) tasks) global) held_queue) builtin_queue)
    parked_queue

-- the queues at the start, by the numbers of CPUs and tasks: the machine's own alone, all empty
abbrev pub first_queues : ℕ → ℕ → QueueState
first_queues cpus tasks = with_locals cpus (own_queues cpus tasks)

-- the world at the start, over a tree of groups and tasks and with that number of CPUs, by plain
-- rules and without timers
abbrev pub first_world : Hierarchy → ℕ → WorldState
first_world tree cpus = record {
  clock = 0;
  tasks = replicate (length tree.homes) new_task;
  cpus = replicate cpus None;
  cycling = None;
  passing = nothing_passes;
  rules = Plain;
  claimed = no_cpus;
  kicked = no_cpus;
  preempted = no_cpus;
  tracks_idle = true;
  timers = [];
  random = 0;
  queues = first_queues cpus (length tree.homes);
  tree = tree;
  call = no_call;
  builtin_clock = 0;
  ejected = None;
  notes = [];
}

-- ---- where bound tasks begin

-- the record of a task that was last on the lowest processor on which it may run
abbrev pub with_first_home : WorldState → ℕ → WorldState
with_first_home w t = with_task w t (with_home (task_at w t) (first_home w t))

-- the tasks below that number
abbrev pub with_homes_below : ℕ → WorldState → WorldState
with_homes_below zero w = w
with_homes_below (suc n) w = with_first_home (with_homes_below n w) n

-- tasks that are bound were last on the lowest processor on which they may run
abbrev pub at_first_homes : WorldState → WorldState
at_first_homes w = if binds w then with_homes_below (length w.tasks) w else w
