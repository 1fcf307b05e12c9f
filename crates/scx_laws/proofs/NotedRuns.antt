-- In each run the notes tell what is so of each task, and so how long it has run.
use Rattle.std.proofs.Common.{◌≡◌, ℕ, ◌*◌, ◌<◌, ◌≤◌, Bool, true, false, ◌⊎◌, inl, inr, List, [], ◌∷◌, length, set, get_or, Option, Some, None, refl, sym, ap, ◌∙◌, arith}
use Rattle.std.proofs.lemmas.Bool.{cases_lt, eq-eqb, ne_eqb}
use Rattle.std.proofs.lemmas.List.{get_or-set_other, get_or_past}
use Rattle.std.proofs.lemmas.List.Quantifiers.{position-Some}
use Rattle.std.proofs.lemmas.List.Sums.{sum_by-set}
use Rattle.scx_dsq.specs.Laws.{one_if}
use Rattle.scx_dsq.proofs.Positions.{position_is}
use Rattle.scx_weights.specs.Hierarchy.{Hierarchy}
use Rattle.scx_sched_world.specs.World.{WorldState, is_this, is_runnable, running, cpu_of}
use Rattle.scx_sched_world.specs.Tasks.{tick_ns}
use Rattle.scx_sched_machine.specs.declared.events.Event.{Event}
use Rattle.scx_sched_machine.specs.declared.events.Event.TheVariants.{Wake, Sleep, Tick, Clock, SetWeight, SetTaskWeight}
use Rattle.scx_sched_machine.specs.declared.events.Refused.{Refused}
use Rattle.scx_sched_policy.specs.Policy.{PolicyState}
use Rattle.scx_sched.specs.Once.{runs, IsSound}
use Rattle.scx_sched.specs.Sim.{SimState, refusal, stepped_if, after_event, notes_if, notes_of}
use Rattle.scx_sched.proofs.Deciding.{accepted}
use Rattle.scx_sched.proofs.Entering.{one_le}
use Rattle.scx_laws.specs.Runs.{IsBegun, after_events}
use Rattle.scx_laws.specs.Telling.{tell, asleep, told, notes_of_events, NotesTellTheState, ticked_by, told_ticks, NotesTellRunTimes}
use Rattle.scx_laws.specs.Times.{ran_if, ran_ticks}
use Rattle.scx_laws.proofs.Adding.{each_has_its_ticks}
use Rattle.scx_laws.proofs.Sound.{IsFirm, firm_first, firm_step}
use Rattle.scx_laws.proofs.Noted.{told_append, runs_nowhere, sleeps}
use Rattle.scx_laws.proofs.NotedEvents.{event_tells}
use Rattle.scx_laws.proofs.Throttled.{active_started, none_active}

-- ---- what is so

-- after any event
after_tells : (s : SimState) (e : Event) (t : ℕ) → IsFirm s → told (notes_of s e) t (tell s.state.world t) ≡ tell (after_event s e).state.world t
after_tells s e t firm = go (refusal s e) refl
  where
    go : (o : Option Refused) → refusal s e ≡ o → told (notes_if o s e) t (tell s.state.world t) ≡ tell (stepped_if o s e).state.world t
    go None ok = event_tells t s.state e (accepted s e ok).taken firm.fine.sound
    go (Some r) ok = refl

-- after any list of them
events_tell : (s : SimState) (events : List Event) (t : ℕ) → IsFirm s → told (notes_of_events s events) t (tell s.state.world t) ≡ tell (after_events s events).state.world t
events_tell s [] t firm = refl
events_tell s (e ∷ es) t firm =
    told_append (notes_of s e) (notes_of_events (after_event s e) es) t (tell s.state.world t)
    ∙ (ap (λ x. told (notes_of_events (after_event s e) es) t x) (after_tells s e t firm) ∙ events_tell (after_event s e) es t (firm_step s e firm))

-- each task sleeps as a machine begins
begun_asleep : (p : PolicyState) (tree : Hierarchy) (cpus : ℕ) (s : SimState) (t : ℕ) → IsBegun p tree cpus s → tell s.state.world t ≡ asleep
begun_asleep p tree cpus s t b =
    let firm = firm_first p tree cpus s b in
    sleeps s.state.world.cpus (length s.state.world.tasks) s.state.world t firm.fine.sound (ap (λ xs. get_or xs t false) (active_started p tree cpus s.state b.first.0) ∙ none_active p tree cpus s t b)

-- the law
pub notes_tell_the_state : NotesTellTheState
notes_tell_the_state p tree cpus s events t b = ap (λ x. told (notes_of_events s events) t x) (sym (begun_asleep p tree cpus s t b)) ∙ events_tell s events t (firm_first p tree cpus s b)

-- ---- how long a task has run

-- who runs on a CPU, and on one alone, runs on no other one
alone : (cpus : List (Option ℕ)) (t c k : ℕ) → runs cpus t ≤ 1 → c < length cpus → is_this t (get_or cpus c None) ≡ true → (k ≡ c → ⊥) → is_this t (get_or cpus k None) ≡ false
alone cpus t c k once l here other =
    let none : runs (set cpus c None) t ≡ 0 = omega (arith, once, ap one_if here, sum_by-set (λ o. one_if (is_this t o)) cpus c None None l) in
    ap (λ o. is_this t o) (sym (get_or-set_other {A = Option ℕ} cpus c k None None other)) ∙ runs_nowhere (set cpus c None) t k none

-- a task runs on the CPU on which it is found
runs_there : (on : List (Option ℕ)) (n : ℕ) (w : WorldState) (t c : ℕ) → IsSound None on n w → is_this t (running w c) ≡ is_this c (cpu_of w t)
runs_there on n w t c h = go (is_this t (running w c)) refl
  where
    once : runs w.cpus t ≤ 1
    once = omega (arith, h.once t, one_le (is_runnable w t))

    there : is_this t (running w c) ≡ true → (c < length w.cpus) ⊎ (length w.cpus ≤ c) → c < length w.cpus
    there e (inl l) = l
    there e (inr past) = let bad : false ≡ true = sym (ap (λ o. is_this t o) (get_or_past {X = Option ℕ} w.cpus c None past)) ∙ e in absurd (cc)

    elsewhere : is_this t (running w c) ≡ false → (o : Option ℕ) → cpu_of w t ≡ o → false ≡ is_this c o
    elsewhere e None x = refl
    elsewhere e (Some d) x = sym (ne_eqb c d (λ same. let bad : false ≡ true = sym e ∙ (ap (λ k. is_this t (get_or w.cpus k None)) same ∙ (position-Some (is_this t) w.cpus d None x).1) in absurd (cc)))

    go : (b : Bool) → is_this t (running w c) ≡ b → is_this t (running w c) ≡ is_this c (cpu_of w t)
    go true e =
        let l = there e (cases_lt c (length w.cpus)) in
        e ∙ sym (ap (λ o. is_this c o) (position_is (is_this t) w.cpus c None l e (λ k d. alone w.cpus t c k once l e d)) ∙ eq-eqb c c refl)
    go false e = e ∙ elsewhere e (cpu_of w t) refl

-- a tick counts for the task that runs
ticks_same : (s : SimState) (e : Event) (o : Option Refused) (t : ℕ) → IsFirm s → ran_if o s e t ≡ ticked_by o e (tell s.state.world t)
ticks_same s (Tick c) None t firm = ap one_if (runs_there s.state.world.cpus (length s.state.world.tasks) s.state.world t c firm.fine.sound)
ticks_same s (Wake k) None t firm = refl
ticks_same s (Sleep k) None t firm = refl
ticks_same s Clock None t firm = refl
ticks_same s (SetWeight g x) None t firm = refl
ticks_same s (SetTaskWeight k x) None t firm = refl
ticks_same s e (Some r) t firm = refl

counted_same : (s : SimState) (events : List Event) (t : ℕ) → IsFirm s → ran_ticks s events t ≡ told_ticks s events t (tell s.state.world t)
counted_same s [] t firm = refl
counted_same s (e ∷ es) t firm =
    let rest : ran_ticks (after_event s e) es t ≡ told_ticks (after_event s e) es t (told (notes_of s e) t (tell s.state.world t)) = counted_same (after_event s e) es t (firm_step s e firm) ∙ ap (λ x. told_ticks (after_event s e) es t x) (sym (after_tells s e t firm)) in
    omega (arith, ticks_same s e (refusal s e) t firm, rest)

-- the law
pub notes_tell_run_times : NotesTellRunTimes
notes_tell_run_times p tree cpus s events t b =
    each_has_its_ticks p tree cpus s events t b
    ∙ ap (λ k. tick_ns * k) (counted_same s events t (firm_first p tree cpus s b) ∙ ap (λ x. told_ticks s events t x) (begun_asleep p tree cpus s t b))
