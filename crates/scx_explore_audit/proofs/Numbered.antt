-- Queues that tasks are in, by number.
use Rattle.std.proofs.Common.{◌≡◌, ℕ, ◌<◌, ◌==◌, ◌&&◌, nat_lt, Bool, true, false, List, [], ◌∷◌, ◌++◌, length, get_or, All, Option, None, Some, option_map, position, unwrap_or, if◌then◌else◌, refl, sym, ap, ◌∙◌, subst, arith}
use Rattle.std.specs.List.{list_any}
use Rattle.std.proofs.lemmas.Bool.{eqb-true}
use Rattle.std.proofs.lemmas.List.Elements.{All-nil, All-push}
use Rattle.std.proofs.lemmas.List.Quantifiers.{position-Some}
use Rattle.scx_dsq.specs.declared.entries.Entry.{Entry}
use Rattle.scx_dsq.specs.Queues.{exists, entry_of}
use Rattle.scx_sched_machine.specs.declared.events.Event.{Event}
use Rattle.scx_sched.specs.Once.{AreInQueues}
use Rattle.scx_sched.specs.Sim.{SimState, after_event}
use Rattle.scx_load_driver.specs.Runs.{stepped_all}
use Rattle.scx_explore_findings.specs.Path.{PathState, machine_of}
use Rattle.scx_explore_findings.proofs.WorldSizes.{HasSize}
use Rattle.scx_explore_findings.proofs.EventSizes.{sized_after}
use Rattle.scx_explore_states.specs.Words.{HasNumbers, number_in, met, most_queues}
use Rattle.scx_explore_audit.specs.Closed.{AreQueuesOf}

-- ---- numbers

-- what holds of all queues that have a number holds of one that has one
numbered : (P : ℕ → Type 0) (ids : List ℕ) (q : ℕ) → All P ids → number_in ids q < length ids → P q
numbered P ids q all few = go (position (λ other. other == q) ids) refl few
  where
    go : (o : Option ℕ) → position (λ other. other == q) ids ≡ o → unwrap_or o (length ids) < length ids → P q
    go None is less = absurd (omega (arith, less))
    go (Some k) is less =
        let at = position-Some (λ other. other == q) ids k 0 is in
        subst P (eqb-true (get_or ids k 0) q at.1) (all k 0 at.0)

-- and of all that have one
pub all_numbered : (P : ℕ → Type 0) (ids others : List ℕ) → All P ids → HasNumbers ids others → All P others
all_numbered P ids others all there k d few = numbered P ids (get_or others k d) all (there k d few)

-- ---- queues that are met

-- and of one more, in which a task is
pub more_met : (P : ℕ → Type 0) (ids : List ℕ) (o : Option Entry) → All P ids → ((e : Entry) → o ≡ Some e → P e.queue) → All P (met ids o)
more_met P ids None all there = all
more_met P ids (Some e) all there = go ((number_in ids e.queue == length ids) && nat_lt (number_in ids e.queue) most_queues)
  where
    go : (b : Bool) → All P (if b then ids ++ e.queue ∷ [] else ids)
    go true = All-push P ids e.queue all (there e refl)
    go false = all

-- the queue in which a task is is one of the machine's
pub task_met : (s : SimState) (ids : List ℕ) (t : ℕ) (o : Option Entry) → AreInQueues s.state.world → o ≡ entry_of s.state.world.queues t → AreQueuesOf s ids → AreQueuesOf s (met ids o)
task_met s ids t o there is all =
    more_met (λ id. exists s.state.world.queues id ≡ true) ids o all
    (λ e here. there t e.queue (ap (λ (x : Option Entry). option_map (λ p. p.queue) x) (sym is ∙ here)))

-- ---- queues of a machine stay

same_after : (s : SimState) (es : List Event) → HasSize s.state.world (stepped_all s es).state.world
same_after s es = go s es (refl, refl, refl, refl, refl, refl)
  where
    go : (t : SimState) (es : List Event) → HasSize s.state.world t.state.world → HasSize s.state.world (stepped_all t es).state.world
    go t [] size = size
    go t (e ∷ es) size = go (after_event t e) es (sized_after s.state.world t e size)

-- those of the machine in which a list begins are those after it
pub queues_behind : (p : PathState) (s : SimState) (ids : List ℕ) → s ≡ machine_of p → AreQueuesOf p.root ids → AreQueuesOf s ids
queues_behind p s ids here all =
    subst (λ (t : SimState). AreQueuesOf t ids) (sym here)
    (subst (λ (qs : List ℕ). All (λ id. list_any (λ other. other == id) qs ≡ true) ids) ((same_after p.root p.events).3) all)

-- and the other way round
pub queues_before : (p : PathState) (s : SimState) (ids : List ℕ) → s ≡ machine_of p → AreQueuesOf s ids → AreQueuesOf p.root ids
queues_before p s ids here all =
    subst (λ (qs : List ℕ). All (λ id. list_any (λ other. other == id) qs ≡ true) ids) (sym ((same_after p.root p.events).3))
    (subst (λ (t : SimState). AreQueuesOf t ids) here all)

-- none are
pub none_met : (P : ℕ → Type 0) (ids : List ℕ) → ids ≡ [] → All P ids
none_met P ids is = subst (λ (qs : List ℕ). All P qs) (sym is) (All-nil P)

-- another machine of the same beginning
pub queues_at : (r s : SimState) (ids : List ℕ) → r ≡ s → AreQueuesOf r ids → AreQueuesOf s ids
queues_at r s ids is all = subst (λ (t : SimState). AreQueuesOf t ids) is all
