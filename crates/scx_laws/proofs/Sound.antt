-- Between two events of a run each task is in its place, and each queue in which one is is there.
use Rattle.std.proofs.Common.{◌≡◌, ℕ, ◌+◌, false, length, Option, Some, None, Ok, refl, sym, subst, List, [], ◌∷◌}
use Rattle.scx_weights.specs.Hierarchy.{Hierarchy}
use Rattle.scx_sched_world.specs.World.{WorldState}
use Rattle.scx_sched_machine.specs.declared.events.Event.{Event}
use Rattle.scx_sched_machine.specs.declared.events.Refused.{Refused}
use Rattle.scx_sched_policy.specs.Policy.{PolicyState}
use Rattle.scx_sched_machine.specs.Steps.{State}
use Rattle.scx_sched_machine.specs.Start.{is_bad_shape, first_state}
use Rattle.scx_sched_machine.specs.Events as machine
use Rattle.scx_sched.specs.Once.{AreInQueues}
use Rattle.scx_sched.specs.Ranges.{IsFine}
use Rattle.scx_sched.specs.Sim.{SimState, refusal, stepped_if, after_event}
use Rattle.scx_sched.proofs.Deciding.{accepted}
use Rattle.scx_sched.proofs.Events.{fine_step}
use Rattle.scx_sched.proofs.First.{fine_started}
use Rattle.scx_sched.proofs.Tallies.{queues_first, queues_there}
use Rattle.scx_laws.specs.Runs.{IsBegun, after_events}

-- a machine between two events, with the number of those that it accepted
pub record IsFirm (s : SimState) : Type 0 where
  pub fine : IsFine (length s.state.world.tasks) s.events s.events None s.state.world.cpus s.state.world
  pub there : AreInQueues s.state.world

-- the number of tasks is that of the world
pub as_many : (n e : ℕ) (w : WorldState) → IsFine n e e None w.cpus w → IsFine (length w.tasks) e e None w.cpus w
as_many n e w h = subst (λ k. IsFine k e e None w.cpus w) (sym h.sound.tasks) h

-- so it is at first
firm_started : (p : PolicyState) (tree : Hierarchy) (cpus : ℕ) (s : State) → first_state p tree cpus ≡ Ok s → is_bad_shape tree cpus ≡ false → length tree.active ≡ length tree.homes → IsFirm (record { state = s; events = 0 })
firm_started p tree cpus s e shape flags =
    let h = fine_started p tree cpus s shape flags e in
    record {
      fine = as_many (length tree.homes) 0 s.world (subst (λ on. IsFine (length tree.homes) 0 0 None on s.world) (sym h.sound.cpus) h);
      there = queues_first p tree cpus s shape e;
    }

pub firm_first : (p : PolicyState) (tree : Hierarchy) (cpus : ℕ) (s : SimState) → IsBegun p tree cpus s → IsFirm s
firm_first p tree cpus s b = subst (λ n. IsFirm (record { state = s.state; events = n })) (sym b.first.1) (firm_started p tree cpus s.state b.first.0 b.shape b.flags)

-- after an accepted event
pub firm_stepped : (s : SimState) (e : Event) → refusal s e ≡ None → IsFirm s → IsFirm (stepped_if None s e)
firm_stepped s e ok h =
    let a = accepted s e ok in
    let n = length s.state.world.tasks in
    record {
      fine = as_many n (s.events + 1) (machine.event_step s.state e).state.world (fine_step n s.events s.state e refl a.taken h.fine);
      there = queues_there s.events s.state e a.taken h.fine h.there;
    }

-- after any event
pub firm_step : (s : SimState) (e : Event) → IsFirm s → IsFirm (after_event s e)
firm_step s e h = go (refusal s e) refl
  where
    go : (o : Option Refused) → refusal s e ≡ o → IsFirm (stepped_if o s e)
    go None ok = firm_stepped s e ok h
    go (Some r) ok = h

-- and after any list of them
pub firm_after : (s : SimState) (events : List Event) → IsFirm s → IsFirm (after_events s events)
firm_after s [] h = h
firm_after s (e ∷ es) h = firm_after (after_event s e) es (firm_step s e h)
