-- Time adds up: how long all tasks have run is how long processors were busy.
use Rattle.std.specs.Prelude.{◌≡◌, ℕ, ◌+◌, ◌*◌, List, [], ◌∷◌, Option, None, is_some, sum_by}
use Rattle.scx_dsq.specs.Laws.{one_if}
use Rattle.scx_weights.specs.Hierarchy.{Hierarchy}
use Rattle.scx_sched_tasks.specs.declared.task.Task.{Task}
use Rattle.scx_sched_world.specs.World.{WorldState, task_at, is_this, running}
use Rattle.scx_sched_world.specs.Tasks.{tick_ns}
use Rattle.scx_sched_machine.specs.declared.events.Event.{Event}
use Rattle.scx_sched_machine.specs.declared.events.Event.TheVariants.{Tick}
use Rattle.scx_sched_machine.specs.declared.events.Refused.{Refused}
use Rattle.scx_sched_policy.specs.Policy.{PolicyState}
use Rattle.scx_sched.specs.Sim.{SimState, refusal, after_event}
use Rattle.scx_laws.specs.Runs.{IsBegun, after_events}

-- how long all tasks have run, added up, in nanoseconds
abbrev pub run_of_all : WorldState → ℕ
run_of_all w = sum_by (λ (x : Task). x.run_ns) w.tasks

-- 1 where an accepted event is a tick of a processor on which a task runs; else 0
abbrev pub busy_if : Option Refused → SimState → Event → ℕ
busy_if None s (Tick c) = one_if (is_some (running s.state.world c))
busy_if o s e = 0

-- of these events, how many are accepted ticks of a processor on which a task runs by then
abbrev pub busy_ticks : SimState → List Event → ℕ
busy_ticks s [] = 0
busy_ticks s (e ∷ es) = busy_if (refusal s e) s e + busy_ticks (after_event s e) es

-- in every machine, after every list of events: what tasks have run is a millisecond for each such
-- tick
abbrev pub TimeAddsUp : Type 0
TimeAddsUp =
    (p : PolicyState) (tree : Hierarchy) (cpus : ℕ) (s : SimState) (events : List Event)
    → IsBegun p tree cpus s
    → run_of_all (after_events s events).state.world ≡ tick_ns * busy_ticks s events

-- 1 where an accepted event is a tick of the processor on which that task runs; else 0
abbrev pub ran_if : Option Refused → SimState → Event → ℕ → ℕ
ran_if None s (Tick c) t = one_if (is_this t (running s.state.world c))
ran_if o s e t = 0

-- of these events, how many are accepted ticks of the processor on which the task runs by then
abbrev pub ran_ticks : SimState → List Event → ℕ → ℕ
ran_ticks s [] t = 0
ran_ticks s (e ∷ es) t = ran_if (refusal s e) s e t + ran_ticks (after_event s e) es t

-- and what each task has run is a millisecond for each tick of its processor
abbrev pub EachHasItsTicks : Type 0
EachHasItsTicks =
    (p : PolicyState) (tree : Hierarchy) (cpus : ℕ) (s : SimState) (events : List Event) (t : ℕ)
    → IsBegun p tree cpus s
    → (task_at (after_events s events).state.world t).run_ns ≡ tick_ns * ran_ticks s events t
