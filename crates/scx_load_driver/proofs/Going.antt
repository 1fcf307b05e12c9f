-- How far a run has come, one event after another: what holds of the run that is still to come, with what
-- was done, makes the whole.
use Rattle.std.proofs.Common.{◌≡◌, List, [], ◌∷◌, None, refl, subst, sym}
use Rattle.std.specs.List.{AllByRecursion}
use Rattle.scx_sched_world.specs.declared.notes.Note.{Note}
use Rattle.scx_sched_machine.specs.declared.events.Event.{Event}
use Rattle.scx_sched_machine.specs.Notes.{Takes}
use Rattle.scx_sched_machine.specs.Callbacks.{AreAnswered}
use Rattle.scx_sched_machine.proofs.Taking.{Takes-append, answered_append}
use Rattle.scx_sched.specs.Sim.{SimState, refusal, after_event, notes_of, calls_of}
use Rattle.scx_sched.specs.Decided.{Follows}
use Rattle.scx_sched.specs.Once.{IsOnce}
use Rattle.scx_sched.specs.Waits.{IsTimely, HasWaits}
use Rattle.scx_sched.specs.Usages.{AreBounded}
use Rattle.scx_load_driver.specs.Runs.{stepped_all, notes_of_all}
use Rattle.scx_load_driver.specs.Headline.{states_from, calls_of_all, EachFollows}

abbrev pub AreOnce : List SimState → Type 0
AreOnce = AllByRecursion (λ s. IsOnce None s.state.world)

abbrev pub AreCounted : List SimState → Type 0
AreCounted = AllByRecursion (λ s. HasWaits None s.state.world)

abbrev pub AreTimely : List SimState → Type 0
AreTimely = AllByRecursion (λ s. IsTimely s.state)

abbrev pub AreAllBounded : List SimState → Type 0
AreAllBounded = AllByRecursion (λ s. AreBounded s.state.world)

-- one event before others
pub follows_before : (s : SimState) (e : Event) (rest : List Event) → Follows (refusal s e) s e (after_event s e) → EachFollows rest (states_from (after_event s e) rest) → EachFollows (e ∷ rest) (states_from s (e ∷ rest))
follows_before s e [] one more = (one, tt)
follows_before s e (f ∷ es) one more = (one, more)

-- from that state and sink, and those events on
pub record IsOnItsWay {S : Type 0} (takes : S → Note → S → Type 0) (events : List Event) (s : SimState) (a : S) (rest : List Event) (t : SimState) (b : S) : Type 0 where
  pub state : stepped_all t rest ≡ stepped_all s events
  pub notes : (z : S) → Takes takes b (notes_of_all t rest) z → Takes takes a (notes_of_all s events) z
  pub answered : AreAnswered (calls_of_all t rest) → AreAnswered (calls_of_all s events)
  pub once : AreOnce (states_from t rest) → AreOnce (states_from s events)
  pub counted : AreCounted (states_from t rest) → AreCounted (states_from s events)
  pub timely : AreTimely (states_from t rest) → AreTimely (states_from s events)
  pub bounded : AreAllBounded (states_from t rest) → AreAllBounded (states_from s events)
  pub follows : EachFollows rest (states_from t rest) → EachFollows events (states_from s events)
  pub now_once : IsOnce None t.state.world
  pub now_counted : HasWaits None t.state.world
  pub now_timely : IsTimely t.state
  pub now_bounded : AreBounded t.state.world

-- one event further
on_further : {S : Type 0} (takes : S → Note → S → Type 0) (events : List Event) (s : SimState) (a : S) (e : Event) (rest : List Event) (t : SimState) (b c : S)
    → IsOnItsWay takes events s a (e ∷ rest) t b → Takes takes b (notes_of t e) c → AreAnswered (calls_of t e) → IsOnce None (after_event t e).state.world → HasWaits None (after_event t e).state.world → IsTimely (after_event t e).state → AreBounded (after_event t e).state.world → Follows (refusal t e) t e (after_event t e)
    → IsOnItsWay takes events s a rest (after_event t e) c
on_further takes events s a e rest t b c h noted answered once counted timely bounded follows = record {
  state = h.state;
  notes = λ z more. h.notes z (Takes-append takes b c z (notes_of t e) (notes_of_all (after_event t e) rest) noted more);
  answered = λ more. h.answered (answered_append (calls_of t e) (calls_of_all (after_event t e) rest) answered more);
  once = λ more. h.once (h.now_once, more);
  counted = λ more. h.counted (h.now_counted, more);
  timely = λ more. h.timely (h.now_timely, more);
  bounded = λ more. h.bounded (h.now_bounded, more);
  follows = λ more. h.follows (follows_before t e rest follows more);
  now_once = once;
  now_counted = counted;
  now_timely = timely;
  now_bounded = bounded;
}

-- the same, where the rest and the state are known by other names
pub gone_further : {S : Type 0} (takes : S → Note → S → Type 0) (events : List Event) (s : SimState) (a : S) (e : Event) (was rest : List Event) (t u : SimState) (b c : S)
    → IsOnItsWay takes events s a was t b → was ≡ e ∷ rest → u ≡ after_event t e → Takes takes b (notes_of t e) c → AreAnswered (calls_of t e) → IsOnce None u.state.world → HasWaits None u.state.world → IsTimely u.state → AreBounded u.state.world → Follows (refusal t e) t e (after_event t e)
    → IsOnItsWay takes events s a rest u c
gone_further {S} takes events s a e was rest t u b c h next state noted answered once counted timely bounded follows =
    let P : List Event → Type 0 = λ es. IsOnItsWay takes events s a es t b in
    let Q : SimState → Type 0 = λ x. IsOnItsWay takes events s a rest x c in
    let O : SimState → Type 0 = λ x. IsOnce None x.state.world in
    let C : SimState → Type 0 = λ x. HasWaits None x.state.world in
    let T : SimState → Type 0 = λ x. IsTimely x.state in
    let B : SimState → Type 0 = λ x. AreBounded x.state.world in
    subst Q (sym state) (on_further takes events s a e rest t b c (subst P next h) noted answered (subst O state once) (subst C state counted) (subst T state timely) (subst B state bounded) follows)

-- all of it
pub record HasGone {S : Type 0} (takes : S → Note → S → Type 0) (events : List Event) (s : SimState) (a : S) (t : SimState) (b : S) : Type 0 where
  pub state : t ≡ stepped_all s events
  pub notes : Takes takes a (notes_of_all s events) b
  pub answered : AreAnswered (calls_of_all s events)
  pub once : AreOnce (states_from s events)
  pub counted : AreCounted (states_from s events)
  pub timely : AreTimely (states_from s events)
  pub bounded : AreAllBounded (states_from s events)
  pub follows : EachFollows events (states_from s events)

gone_all : {S : Type 0} (takes : S → Note → S → Type 0) (events : List Event) (s : SimState) (a : S) (t : SimState) (b : S) → IsOnItsWay takes events s a [] t b → HasGone takes events s a t b
gone_all takes events s a t b h =
    record { state = h.state; notes = h.notes b refl; answered = h.answered tt; once = h.once (h.now_once, tt); counted = h.counted (h.now_counted, tt); timely = h.timely (h.now_timely, tt); bounded = h.bounded (h.now_bounded, tt); follows = h.follows tt }

-- where no event is left, the whole run was gone through
pub gone_through : {S : Type 0} (takes : S → Note → S → Type 0) (events : List Event) (s : SimState) (a : S) (rest : List Event) (t : SimState) (b : S) → IsOnItsWay takes events s a rest t b → rest ≡ [] → HasGone takes events s a t b
gone_through takes events s a rest t b h end =
    let P : List Event → Type 0 = λ es. IsOnItsWay takes events s a es t b in
    gone_all takes events s a t b (subst P end h)

-- before the first event
pub gone_nowhere : {S : Type 0} (takes : S → Note → S → Type 0) (events : List Event) (s : SimState) (a : S) → IsOnce None s.state.world → HasWaits None s.state.world → IsTimely s.state → AreBounded s.state.world → IsOnItsWay takes events s a events s a
gone_nowhere takes events s a once counted timely bounded =
    record { state = refl; notes = λ z more. more; answered = λ more. more; once = λ more. more; counted = λ more. more; timely = λ more. more; bounded = λ more. more; follows = λ more. more; now_once = once; now_counted = counted; now_timely = timely; now_bounded = bounded }
