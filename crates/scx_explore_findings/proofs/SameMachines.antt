-- Two machines that are the same but for unread parts answer events, and lists of events, alike.
use Rattle.std.proofs.Common.{◌≡◌, ℕ, ◌+◌, ◌<◌, ◌≤◌, ◌==◌, Bool, false, cond, List, [], ◌∷◌, ◌++◌, length, Option, Some, None, refl, sym, ap, ◌∙◌, subst, arith}
use Rattle.std.proofs.lemmas.Bool.{ne_eqb}
use Rattle.scx_dsq.specs.Queues.{QueueState}
use Rattle.scx_isa_semantics.specs.declared.rules.Rules.{Rules}
use Rattle.scx_weights.specs.declared.group.Group.{Group}
use Rattle.scx_sched_world.specs.declared.notes.Note.{Note}
use Rattle.scx_sched_machine.specs.declared.events.Event.{Event}
use Rattle.scx_sched_machine.specs.declared.events.Refused.{Refused}
use Rattle.scx_sched_machine.specs.declared.events.Refused.TheVariants.{RunOver}
use Rattle.scx_sched_machine.specs.Steps.{State}
use Rattle.scx_sched_machine.specs.Events as machine
use Rattle.scx_sched_machine.specs.Events.{event_step}
use Rattle.scx_sched.specs.Sim.{SimState, max_events, refusal, stepped_if, after_event, notes_if, notes_of}
use Rattle.scx_load_driver.specs.Runs.{notes_of_all}
use Rattle.scx_explore_findings.specs.QueueOrder.{AreAsQueues}
use Rattle.scx_explore_findings.specs.UnreadParts.{Parts, AreAlike, AreAsStates, AreSame, AnswersAlike, EventsReadNoSuchPart, ListsReadNoSuchPart, parts_of}
use Rattle.scx_explore_findings.proofs.SameSteps.{re, Passes}
use Rattle.scx_explore_findings.proofs.SameEvents.{passes_event, refusal_same}

-- ---- one event

-- where there is room for one more event
not_over : (n : ℕ) → n < max_events → (n == max_events) ≡ false
not_over n l = ne_eqb n max_events (λ e. omega (arith, l, e))

refused_in : (s : SimState) (e : Event) → s.events < max_events → refusal s e ≡ machine.refusal s.state e
refused_in s e l = ap (λ b. cond b (Some RunOver) (machine.refusal s.state e)) (not_over s.events l)

module _ (s t : SimState) (same : AreSame s t) (e : Event) where
  refused_alike : machine.refusal s.state e ≡ machine.refusal t.state e
  refused_alike = refusal_same e s.state (parts_of t.state.world) ∙ ap (λ (x : State). machine.refusal x e) same.rest

  stepped_alike : Passes false (event_step s.state e) (event_step t.state e)
  stepped_alike = passes_event e s.state t.state same

  module _ (here : s.events < max_events) (there : t.events < max_events) where
    refusal_alike : refusal s e ≡ refusal t e
    refusal_alike = refused_in s e here ∙ (refused_alike ∙ sym (refused_in t e there))

    after_if : (o : Option Refused) → AreAsStates false (stepped_if o s e).state (stepped_if o t e).state
    after_if None = stepped_alike.0
    after_if (Some r) = same

    noted_if : (o : Option Refused) → notes_if o s e ≡ notes_if o t e
    noted_if None = stepped_alike.1
    noted_if (Some r) = refl

    answers_alike : AnswersAlike s t e
    answers_alike = record {
      refusal = refusal_alike;
      notes = noted_if (refusal s e) ∙ ap (λ (o : Option Refused). notes_if o t e) refusal_alike;
      after = subst (λ (o : Option Refused). AreAsStates false (after_event s e).state (stepped_if o t e).state) refusal_alike (after_if (refusal s e));
    }

-- two machines that are the same but for such parts answer an event alike
pub events_read_no_such_part : EventsReadNoSuchPart
events_read_no_such_part s t e same here there = answers_alike s t same e here there

-- ---- a list of events

-- an event counts once at most
pub counted : (o : Option Refused) (s : SimState) (e : Event) → (stepped_if o s e).events ≤ s.events + 1
counted None s e = omega arith
counted (Some r) s e = omega arith

pub room_for_one : (n k m : ℕ) → n + (k + 1) ≤ m → n < m
room_for_one n k m l = omega (arith, l)

pub room_for_rest : (n i k m : ℕ) → i ≤ n + 1 → n + (k + 1) ≤ m → i + k ≤ m
room_for_rest n i k m c l = omega (arith, c, l)

pub one_longer : (e : Event) (es : List Event) (n m : ℕ) → n + length (e ∷ es) ≤ m → n + (length es + 1) ≤ m
one_longer e es n m l = omega (arith, l)

-- two such machines answer a list of events alike
pub lists_read_no_such_part : ListsReadNoSuchPart
lists_read_no_such_part s t [] same here there = record { accepted = λ all. all; notes = refl; after = same }
lists_read_no_such_part s t (e ∷ es) same here there =
    let k = length es in
    let l = one_longer e es s.events max_events here in
    let m = one_longer e es t.events max_events there in
    let one = answers_alike s t same e (room_for_one s.events k max_events l) (room_for_one t.events k max_events m) in
    let more = lists_read_no_such_part (after_event s e) (after_event t e) es one.after (room_for_rest s.events (after_event s e).events k max_events (counted (refusal s e) s e) l) (room_for_rest t.events (after_event t e).events k max_events (counted (refusal t e) t e) m) in
    record {
      accepted = λ all. (sym one.refusal ∙ all.0, more.accepted all.1);
      notes = ap (λ (ns : List Note). ns ++ notes_of_all (after_event s e) es) one.notes ∙ ap (λ (ns : List Note). notes_of t e ++ ns) more.notes;
      after = more.after;
    }

-- ---- the other way round

queues_back : (x y : QueueState) → AreAsQueues x y → AreAsQueues y x
queues_back x y m = record {
  room = sym m.room;
  ids = sym m.ids;
  tasks = sym m.tasks;
  places = λ u. sym (m.places u);
  order = λ u v. sym (m.order u v);
  stamped = m.stamped_there;
  stamped_there = m.stamped;
}

parts_back : (b : Bool) (r : Rules) (gs : List Group) (p q : Parts) → AreAlike b r gs p q → AreAlike b r gs q p
parts_back b r gs p q m = record {
  queues = queues_back p.queues q.queues m.queues;
  call = λ e. sym (m.call e);
  kicked = λ e. sym (m.kicked e);
  preempted = λ e. sym (m.preempted e);
  usages = λ e. sym (m.usages e);
}

-- the relation holds in the other direction
pub states_back : (b : Bool) (s t : State) → AreAsStates b s t → AreAsStates b t s
states_back b s t same = record {
  parts = subst (λ (x : State). AreAlike b x.world.rules x.world.tree.groups (parts_of t.world) (parts_of s.world)) same.rest (parts_back b s.world.rules s.world.tree.groups (parts_of s.world) (parts_of t.world) same.parts);
  rest = ap (λ (x : State). re x (parts_of s.world)) (sym same.rest);
}
