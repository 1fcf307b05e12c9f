-- What events alone decide, whatever callbacks do: the clock, who is runnable, the weights of
-- groups and tasks, and what groups have used of their quotas. The policy and the rules stay as
-- they were, and once the policy is ejected none of it is called.
use Rattle.std.specs.Prelude.{◌≡◌, ℕ, ◌+◌, true, false, [], Option, Some, None, if◌then◌else◌}
use Rattle.scx_weights.specs.Hierarchy.{Hierarchy, with_task, with_weight, with_own_weight}
use Rattle.scx_weights.specs.Limits.{with_use, with_turn}
use Rattle.scx_sched_world.specs.declared.eject.Eject.{Eject}
use Rattle.scx_sched_world.specs.World.{WorldState, task_at, is_this, running}
use Rattle.scx_sched_world.specs.Tasks.{tick_ns}
use Rattle.scx_sched_machine.specs.declared.events.Event.{Event}
use Rattle.scx_sched_machine.specs.declared.events.Event.TheVariants.{Wake, Sleep, Tick, Clock, SetWeight, SetTaskWeight}
use Rattle.scx_sched_machine.specs.declared.events.Refused.{Refused}
use Rattle.scx_sched.specs.Causes.{EjectsOnce, IsNeverStuck}
use Rattle.scx_sched.specs.Once.{AreInQueues}
use Rattle.scx_sched.specs.Sim.{SimState, calls_of}

-- the clock grows by a millisecond at its own event, and at no other
abbrev pub clock_after : Event → ℕ → ℕ
clock_after Clock n = n + 1
clock_after (Wake t) n = n
clock_after (Sleep t) n = n
clock_after (Tick c) n = n
clock_after (SetWeight g x) n = n
clock_after (SetTaskWeight t x) n = n

-- whoever runs has used a millisecond
abbrev pub used_at_tick : Option ℕ → Hierarchy → Hierarchy
used_at_tick None h = h
used_at_tick (Some t) h = with_use h t

-- a task is runnable from a wake on until it sleeps; periods of quotas begin with the clock
abbrev pub tree_after : Event → WorldState → Hierarchy
tree_after (Wake t) w = with_task w.tree t true
tree_after (Sleep t) w = with_task w.tree t false
tree_after (Tick c) w = used_at_tick (running w c) w.tree
tree_after Clock w = with_turn w.tree (w.clock + 1)
tree_after (SetWeight g x) w = with_weight w.tree g x
tree_after (SetTaskWeight t x) w = with_own_weight w.tree t x

-- how much longer a task has run: for a millisecond where the event is a tick of its processor
abbrev pub ran_in : Event → WorldState → ℕ → ℕ
ran_in (Tick c) w t = if is_this t (running w c) then tick_ns else 0
ran_in e w t = 0

-- from before an accepted event to after it
pub record EventsDecide (s : SimState) (e : Event) (t : SimState) : Type 0 where
  pub clock : t.state.world.clock ≡ clock_after e s.state.world.clock
  pub tree : t.state.world.tree ≡ tree_after e s.state.world
  pub policy : t.state.policy ≡ s.state.policy
  pub rules : t.state.world.rules ≡ s.state.world.rules
  pub silent : (x : Eject) → s.state.world.ejected ≡ Some x → calls_of s e ≡ []
  pub ran : (u : ℕ)
      → (task_at t.state.world u).run_ns
      ≡ (task_at s.state.world u).run_ns + ran_in e s.state.world u
  pub counted : t.events ≡ s.events + 1

-- from before any event to after it: one that is refused changes nothing
abbrev pub Follows : Option Refused → SimState → Event → SimState → Type 0
Follows None s e t =
    EventsDecide s e t × EjectsOnce s e t × IsNeverStuck t.state.world × AreInQueues t.state.world
Follows (Some r) s e t = t ≡ s
