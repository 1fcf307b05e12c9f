-- Tasks whose groups have used up their quotas: which of them are parked, and which run.
use Rattle.std.specs.Prelude.{◌≡◌, ℕ, true, List, Some, None}
use Rattle.scx_dsq.specs.Queues.{queue_of}
use Rattle.scx_weights.specs.Hierarchy.{Hierarchy}
use Rattle.scx_sched_world.specs.Ids.{parked_queue}
use Rattle.scx_sched_world.specs.World.{is_throttled, running}
use Rattle.scx_sched_machine.specs.declared.events.Event.{Event}
use Rattle.scx_sched_machine.specs.declared.events.Event.TheVariants.{Tick}
use Rattle.scx_sched_policy.specs.Policy.{PolicyState}
use Rattle.scx_sched.specs.Sim.{SimState, refusal, after_event}
use Rattle.scx_laws.specs.Runs.{IsBegun, after_events}

-- in every machine, after every list of events, a task that is parked is throttled
abbrev pub ParkedAreThrottled : Type 0
ParkedAreThrottled =
    (p : PolicyState) (tree : Hierarchy) (cpus : ℕ) (s : SimState) (events : List Event) (t : ℕ)
    → IsBegun p tree cpus s
    → queue_of (after_events s events).state.world.queues t ≡ Some parked_queue
    → is_throttled (after_events s events).state.world t ≡ true

-- in every machine, after every list of events and one more: a throttled task that runs on a CPU
-- ran there before that event, which isn't a tick of that CPU
abbrev pub ThrottledOnlyRunOn : Type 0
ThrottledOnlyRunOn =
    (p : PolicyState) (tree : Hierarchy) (cpus : ℕ) (s : SimState) (events : List Event)
    (v : Event) (c t : ℕ)
    → IsBegun p tree cpus s
    → refusal (after_events s events) v ≡ None
    → running (after_event (after_events s events) v).state.world c ≡ Some t
    → is_throttled (after_event (after_events s events) v).state.world t ≡ true
    → (running (after_events s events).state.world c ≡ Some t) × (v ≡ Tick c → ⊥)
