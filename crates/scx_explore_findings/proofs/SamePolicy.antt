-- Machines of the same policy and of the same size.
use Rattle.std.proofs.Common.{◌≡◌, ℕ, ℤ, Option, Some, None, Result, Ok, OnOk, refl, sym, ap, ◌∙◌, subst}
use Rattle.scx_weights.specs.Hierarchy.{Hierarchy}
use Rattle.scx_sched_world.specs.World.{WorldState, IsLike}
use Rattle.scx_sched_machine.specs.declared.events.Event.{Event}
use Rattle.scx_sched_machine.specs.declared.events.Refused.{Refused}
use Rattle.scx_sched_policy.specs.Policy.{PolicyState}
use Rattle.scx_sched_machine.specs.Steps.{State}
use Rattle.scx_sched.specs.Sim.{SimState, refusal, stepped_if, after_event, answer_of, IsFirstState}
use Rattle.scx_sched.specs.Decided.{EventsDecide}
use Rattle.scx_explore_findings.specs.Path.{IsAs}
use Rattle.scx_explore_findings.proofs.WorldSizes.{HasSize, like_sized}
use Rattle.scx_explore_findings.proofs.EventSizes.{sized_after}

pub sized_like : (v w : WorldState) → IsLike v w → HasSize v w
sized_like v w h = (h.tasks, h.cpus, h.room, h.queues, h.groups, h.timers)

-- a machine is as itself
pub as_itself : (s : SimState) → IsAs s s
as_itself s = record { policy = refl; world = like_sized s.state.world s.state.world (refl, refl, refl, refl, refl, refl) }

-- and two are as one another that are as a third one
pub as_one_another : (s t u : SimState) → IsAs s t → IsAs s u → IsAs t u
as_one_another s t u h k =
    record {
      policy = sym h.policy ∙ k.policy;
      world = record {
        tasks = sym h.world.tasks ∙ k.world.tasks;
        cpus = sym h.world.cpus ∙ k.world.cpus;
        room = sym h.world.room ∙ k.world.room;
        queues = sym h.world.queues ∙ k.world.queues;
        groups = sym h.world.groups ∙ k.world.groups;
        timers = sym h.world.timers ∙ k.world.timers;
      };
    }

-- so is one that is as another that is as the first one
pub as_another : (s t u : SimState) → IsAs s t → IsAs t u → IsAs s u
as_another s t u h k = as_one_another t s u (as_one_another s t s h (as_itself s)) k

-- an event keeps policy and size
pub as_stepped : (s : SimState) (e : Event) (t : SimState) (r : Result (Unit {0}) Refused) → r ≡ answer_of (refusal s e) → t ≡ after_event s e → OnOk r (EventsDecide s e t) → IsAs s t
as_stepped s e t r answer state decided =
    record {
      policy = sym (go (refusal s e) state (subst (λ (x : Result (Unit {0}) Refused). OnOk x (EventsDecide s e t)) answer decided));
      world = subst (λ (x : SimState). IsLike s.state.world x.state.world) (sym state) (like_sized s.state.world (after_event s e).state.world (sized_after s.state.world s e (refl, refl, refl, refl, refl, refl)));
    }
  where
    go : (o : Option Refused) → t ≡ stepped_if o s e → OnOk (answer_of o) (EventsDecide s e t) → t.state.policy ≡ s.state.policy
    go None x d = d.policy
    go (Some refused) x d = ap (λ (y : SimState). y.state.policy) x

-- ---- two machines as they are made

same_state : (s t : State) → ◌≡◌ {A = Result State ℤ} (Ok s) (Ok t) → s ≡ t
same_state s t e = cc

-- a machine by its parts
abbrev of_parts : State → ℕ → SimState
of_parts x n = record { state = x; events = n }

-- of one policy, tree and number of processors one machine is made
pub same_first : (p : PolicyState) (tree : Hierarchy) (cpus : ℕ) (s t : SimState) → IsFirstState p tree cpus s → IsFirstState p tree cpus t → s ≡ t
same_first p tree cpus s t h k =
    let state : s.state ≡ t.state = same_state s.state t.state (sym h.0 ∙ k.0) in
    let events : s.events ≡ t.events = h.1 ∙ sym k.1 in
    ap (λ (x : State). of_parts x s.events) state ∙ ap (λ (n : ℕ). of_parts t.state n) events

-- so the second one fits into the place of the first
pub as_first : (p : PolicyState) (tree : Hierarchy) (cpus : ℕ) (s t : SimState) → IsFirstState p tree cpus s → IsFirstState p tree cpus t → IsAs s t
as_first p tree cpus s t h k = subst (λ (x : SimState). IsAs s x) (same_first p tree cpus s t h k) (as_itself s)
