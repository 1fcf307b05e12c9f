-- The whole run of a machine, from its first state on.
use Rattle.std.proofs.Common.{◌≡◌, ℕ, ◌≤◌, List, [], ◌∷◌, Option, None, Some, is_some, Bool, true, false, ◌||◌, refl, sym, ap, subst, ◌∙◌, arith}
use Rattle.std.specs.List.{AllByRecursion}
use Rattle.scx_dsq.specs.Laws.{one_if}
use Rattle.scx_weights.specs.Hierarchy.{Hierarchy}
use Rattle.scx_sched_world.specs.declared.notes.Note.{Note}
use Rattle.scx_sched_world.specs.World.{WorldState, task_at, is_runnable, waits, wait}
use Rattle.scx_sched_machine.specs.declared.events.Event.{Event}
use Rattle.scx_sched_machine.specs.Notes.{Takes}
use Rattle.scx_sched_policy.specs.Policy.{PolicyState}
use Rattle.scx_sched_machine.specs.Callbacks.{AreAnswered}
use Rattle.scx_sched_machine.specs.Start.{start_calls}
use Rattle.scx_sched_machine.proofs.Taking.{answered_append}
use Rattle.scx_sched_machine.specs.declared.events.Refused.{Refused}
use Rattle.scx_sched.specs.Sim.{SimState, refusal, after_event, IsFirstState}
use Rattle.scx_sched.specs.Decided.{Follows}
use Rattle.scx_sched.specs.Once.{appearances, IsOnce}
use Rattle.scx_sched.specs.Waits.{IsTimely, HasWaits}
use Rattle.scx_sched.proofs.First.{policy_started}
use Rattle.scx_load_driver.specs.Runs.{stepped_all, notes_of_all}
use Rattle.scx_load_driver.specs.Headline.{Run, states_from, calls_of_all, run_from, run_if, machine_run, IsLast, IsRecorded, NoneIsStuck, EachIsOnce, EachWaitIsCounted, NoneIsLate, EachUsageIsBounded, EachFollows}
use Rattle.scx_load_driver.proofs.Going.{AreOnce, AreCounted, AreTimely, AreAllBounded}

-- ---- the states

-- the last one is the one after all events
last_state : (s : SimState) (events : List Event) → IsLast (stepped_all s events) (states_from s events)
last_state s [] = ([], refl)
last_state s (e ∷ es) =
    let h = last_state (after_event s e) es in
    (s ∷ h.0, ap (λ ss. s ∷ ss) h.1)

-- in one place
placed : (w : WorldState) → IsOnce None w → (t : ℕ) → appearances w t ≡ one_if (is_runnable w t)
placed w h t = omega (arith, h t)

all_placed : (states : List SimState) → AreOnce states → AllByRecursion (λ s. (t : ℕ) → appearances s.state.world t ≡ one_if (is_runnable s.state.world t)) states
all_placed [] h = tt
all_placed (s ∷ ss) h = (placed s.state.world h.0, all_placed ss h.1)

or_no : (b : Bool) → (b || false) ≡ b
or_no true = refl
or_no false = refl

-- no task is at hand between two events
counts : (w : WorldState) → HasWaits None w → (t : ℕ) → is_some (task_at w t).since ≡ waits w t
counts w h t = h t ∙ or_no (waits w t)

all_counted : (states : List SimState) → AreCounted states → AllByRecursion (λ s. (t : ℕ) → is_some (task_at s.state.world t).since ≡ waits s.state.world t) states
all_counted [] h = tt
all_counted (s ∷ ss) h = (counts s.state.world h.0, all_counted ss h.1)

abbrev InTime : ℕ → SimState → Type 0
InTime limit s = s.state.world.ejected ≡ None → (t : ℕ) → wait s.state.world t ≤ limit

-- in time, by the limit of the policy that it was given
in_time : (p : PolicyState) (s : SimState) → s.state.policy ≡ p → IsTimely s.state → InTime p.timeout_ms s
in_time p s same h =
    let P : PolicyState → Type 0 = λ q. InTime q.timeout_ms s in
    subst P same h

-- whatever follows, the policy stays
policy_stays : (o : Option Refused) (s : SimState) (e : Event) (t : SimState) → Follows o s e t → t.state.policy ≡ s.state.policy
policy_stays None s e t h = h.0.policy
policy_stays (Some r) s e t h = ap (λ (x : SimState). x.state.policy) h

all_in_time : (p : PolicyState) (events : List Event) (s : SimState) (states : List SimState) → s.state.policy ≡ p → EachFollows events (s ∷ states) → AreTimely (s ∷ states) → AllByRecursion (InTime p.timeout_ms) (s ∷ states)
all_in_time p [] s [] same follows h = (in_time p s same h.0, tt)
all_in_time p [] s (t ∷ ss) same follows h = absurd follows
all_in_time p (e ∷ es) s [] same follows h = absurd follows
all_in_time p (e ∷ es) s (t ∷ ss) same follows h = (in_time p s same h.0, all_in_time p es t ss (policy_stays (refusal s e) s e t follows.0 ∙ same) follows.1 h.1)

-- of the states from that one on
in_time_from : (p : PolicyState) (s : SimState) (events : List Event) → s.state.policy ≡ p → EachFollows events (states_from s events) → AreTimely (states_from s events) → AllByRecursion (InTime p.timeout_ms) (states_from s events)
in_time_from p s [] same follows h = all_in_time p [] s [] same follows h
in_time_from p s (e ∷ es) same follows h = all_in_time p (e ∷ es) s (states_from (after_event s e) es) same follows h

-- ---- the run

module _ (p : PolicyState) (tree : Hierarchy) (cpus : ℕ) (events : List Event) (s : SimState) (first : IsFirstState p tree cpus s) where
  abbrev the_run : Run
  the_run = run_from (start_calls p tree cpus) s events

  -- from the first state on it is the machine's
  is_machine_run : the_run ≡ machine_run p tree cpus events
  is_machine_run =
      let from_state : ℕ → Run = λ n. run_from (start_calls p tree cpus) (record { state = s.state; events = n }) events in
      sym (ap (λ r. run_if r (start_calls p tree cpus) events) first.0 ∙ ap from_state (sym first.1))

  pub run_notes : notes_of_all s events ≡ (machine_run p tree cpus events).notes
  run_notes = ap (λ r. r.notes) is_machine_run

  pub run_last : IsLast (stepped_all s events) (machine_run p tree cpus events).states
  run_last = subst (λ (r : Run). IsLast (stepped_all s events) r.states) is_machine_run (last_state s events)

  pub run_recorded : {S : Type 0} (takes : S → Note → S → Type 0) (a : S) (t : SimState) (b : S) → t ≡ stepped_all s events → Takes takes a (notes_of_all s events) b → IsRecorded takes (machine_run p tree cpus events) a t b
  run_recorded takes a t b state notes =
      let L : SimState → Type 0 = λ x. IsLast x (machine_run p tree cpus events).states in
      let T : List Note → Type 0 = λ ns. Takes takes a ns b in
      record { state = subst L (sym state) run_last; notes = subst T run_notes notes }

  pub run_never_stuck : AreAnswered (start_calls p tree cpus) → AreAnswered (calls_of_all s events) → NoneIsStuck (machine_run p tree cpus events)
  run_never_stuck before more =
      subst NoneIsStuck is_machine_run (answered_append (start_calls p tree cpus) (calls_of_all s events) before more)

  pub run_once : AreOnce (states_from s events) → EachIsOnce (machine_run p tree cpus events)
  run_once h = subst EachIsOnce is_machine_run (all_placed (states_from s events) h)

  pub run_counted : AreCounted (states_from s events) → EachWaitIsCounted (machine_run p tree cpus events)
  run_counted h = subst EachWaitIsCounted is_machine_run (all_counted (states_from s events) h)

  pub run_timely : EachFollows events (states_from s events) → AreTimely (states_from s events) → NoneIsLate p.timeout_ms (machine_run p tree cpus events)
  run_timely follows h =
      let same : s.state.policy ≡ p = policy_started p tree cpus s.state first.0 in
      subst (NoneIsLate p.timeout_ms) is_machine_run (in_time_from p s events same follows h)

  pub run_bounded : AreAllBounded (states_from s events) → EachUsageIsBounded (machine_run p tree cpus events)
  run_bounded h = subst EachUsageIsBounded is_machine_run h

  pub run_follows : EachFollows events (states_from s events) → EachFollows events (machine_run p tree cpus events).states
  run_follows h = subst (λ (r : Run). EachFollows events r.states) is_machine_run h
