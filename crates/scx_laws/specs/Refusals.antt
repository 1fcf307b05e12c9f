-- Which events are refused, and by what; every other event is accepted.
use Rattle.std.specs.Prelude.{◌≡◌, ℕ, ◌<◌, ◌≤◌, Bool, true, false, length}
use Rattle.scx_sched_world.specs.World.{is_runnable}
use Rattle.scx_sched_machine.specs.declared.events.Event.{Event}
use Rattle.scx_sched_machine.specs.declared.events.Event.TheVariants.{Wake, Sleep, Tick, Clock, SetWeight, SetTaskWeight}
use Rattle.scx_sched_machine.specs.declared.events.Refused.{Refused}
use Rattle.scx_sched_machine.specs.declared.events.Refused.TheVariants.{AlreadyRunnable, NotRunnable, UnknownTask, UnknownCpu, UnknownGroup, BadWeight}
use Rattle.scx_sched_machine.specs.Steps.{State}

-- a task that isn't there, or that is already as the event would make it
pub data RefusesTask (s : State) (t : ℕ) (already : Bool) (why r : Refused) : Type 0 where
  NoTask : length s.world.tasks ≤ t → r ≡ UnknownTask → RefusesTask s t already why r
  Already : t < length s.world.tasks → is_runnable s.world t ≡ already → r ≡ why
      → RefusesTask s t already why r

-- as cgroup-v2.rst, "Weights", has them
abbrev pub IsWeight : ℕ → Type 0
IsWeight x = (1 ≤ x) × (x ≤ 10000)

-- a group that isn't there, or else a weight that no group may have
pub data RefusesWeight (s : State) (g x : ℕ) (r : Refused) : Type 0 where
  NoGroup : length s.world.tree.groups ≤ g → r ≡ UnknownGroup → RefusesWeight s g x r
  NoWeight : g < length s.world.tree.groups → ¬ IsWeight x → r ≡ BadWeight → RefusesWeight s g x r

-- a task that isn't there, or else a weight that no task may have
pub data RefusesTaskWeight (s : State) (t x : ℕ) (r : Refused) : Type 0 where
  OfNoTask : length s.world.tasks ≤ t → r ≡ UnknownTask → RefusesTaskWeight s t x r
  OfNoWeight : t < length s.world.tasks → ¬ IsWeight x → r ≡ BadWeight → RefusesTaskWeight s t x r

-- that cause is why an event is refused; an event of the clock never is
abbrev pub Refuses : State → Event → Refused → Type 0
Refuses s (Wake t) r = RefusesTask s t true AlreadyRunnable r
Refuses s (Sleep t) r = RefusesTask s t false NotRunnable r
Refuses s (Tick c) r = (length s.world.cpus ≤ c) × (r ≡ UnknownCpu)
Refuses s Clock r = ⊥
Refuses s (SetWeight g x) r = RefusesWeight s g x r
Refuses s (SetTaskWeight t x) r = RefusesTaskWeight s t x r
