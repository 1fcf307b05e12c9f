-- How far a run has come, one event after another.
use Rattle.std.proofs.Common.{◌≡◌, Bool, true, false, List, [], ◌∷◌, ◌++◌, None, refl, sym, ap, subst, ◌∙◌, append_assoc}
use Rattle.std.proofs.lemmas.List.{append-nil}
use Rattle.scx_sched_world.specs.declared.notes.Note.{Note}
use Rattle.scx_sched_machine.specs.declared.events.Event.{Event}
use Rattle.scx_sched_machine.specs.Notes.{Takes}
use Rattle.scx_sched.specs.Sim.{SimState, after_event, notes_of}
use Rattle.scx_sched.specs.Once.{IsOnce}
use Rattle.scx_sched.specs.Waits.{IsTimely, HasWaits}
use Rattle.scx_sched.specs.Usages.{AreBounded}
use Rattle.scx_sched.specs.Quiet.{is_of_time, GoQuietly}
use Rattle.scx_load_driver.specs.Runs.{stepped_all, notes_of_all, Skips}
use Rattle.scxsim_trace.specs.Runs.{IsInOrder, GoesWell, StaysInOrder, GoesThrough, Observed, GoUnheeded, PassesBy}

-- the notes of two lists of events, one after the other
pub notes_of_all-append : (s : SimState) (es fs : List Event) → notes_of_all s (es ++ fs) ≡ notes_of_all s es ++ notes_of_all (stepped_all s es) fs
notes_of_all-append s [] fs = refl
notes_of_all-append s (e ∷ es) fs =
    ap (λ ns. notes_of s e ++ ns) (notes_of_all-append (after_event s e) es fs) ∙ sym (append_assoc (notes_of s e) (notes_of_all (after_event s e) es) (notes_of_all (stepped_all (after_event s e) es) fs))

-- notes, and then more of them
pub takes_both : {S : Type 0} (takes : S → Note → S → Type 0) (ns ms : List Note) (a b c : S) → Takes takes a ns b → Takes takes b ms c → Takes takes a (ns ++ ms) c
takes_both {S} takes [] ms a b c first next = let P : S → Type 0 = λ x. Takes takes x ms c in subst P first next
takes_both takes (n ∷ ns) ms a b c (u, one, rest) next = (u, one, takes_both takes ns ms u b c rest next)

-- what a machine says of itself
pub in_order : (s : SimState) → IsOnce None s.state.world → HasWaits None s.state.world → IsTimely s.state → AreBounded s.state.world → IsInOrder s
in_order s once counted timely bounded = record { once = once; counted = counted; timely = timely; bounded = bounded }

-- ---- up to some event

-- what is left leads on to an end of the whole run
abbrev pub HasGone : {S : Type 0} → (S → SimState → Event → S → Type 0) → (S → Note → S → Type 0) → (S → Bool) → List Event → SimState → S → List Event → SimState → S → Type 0
HasGone {S} comes takes has_failed events s a rest t b =
    (u : SimState) (c : S) → Observed comes takes has_failed rest t b u c → Observed comes takes has_failed events s a u c

-- a test doesn't both hold and fail
pub differ : (f : Bool) → f ≡ true → f ≡ false → ⊥
differ true x y = absurd (cc)
differ false x y = absurd (cc)

-- one event, after which the observer hasn't failed
pub gone_further : {S : Type 0} (comes : S → SimState → Event → S → Type 0) (takes : S → Note → S → Type 0) (has_failed : S → Bool) (events rest : List Event) (later : SimState → List Event) (s t u : SimState) (a b k c : S) (e : Event)
    → HasGone comes takes has_failed events s a rest t b → IsInOrder t → rest ≡ e ∷ later (after_event t e) → u ≡ after_event t e → comes b t e k → Takes takes k (notes_of t e) c → GoesWell t e → has_failed c ≡ false
    → HasGone comes takes has_failed events s a (later u) u c
gone_further {S} comes takes has_failed events rest later s t u a b k c e gone now next state shown notes well going v d more =
    let P : SimState → Type 0 = λ x. Observed comes takes has_failed (later x) x c v d in
    let Q : List Event → Type 0 = λ es. Observed comes takes has_failed es t b v d in
    let failed : has_failed c ≡ true → (v ≡ after_event t e) × (d ≡ c) × IsInOrder (after_event t e) = λ f. absurd (differ (has_failed c) f going) in
    gone v d (subst Q (sym next) (k, c, shown, notes, now, well, failed, λ _. subst P state more))

-- one event, after which the observer has failed
pub gone_until : {S : Type 0} (comes : S → SimState → Event → S → Type 0) (takes : S → Note → S → Type 0) (has_failed : S → Bool) (events rest later : List Event) (s t u : SimState) (a b k c : S) (e : Event)
    → HasGone comes takes has_failed events s a rest t b → IsInOrder t → rest ≡ e ∷ later → u ≡ after_event t e → comes b t e k → Takes takes k (notes_of t e) c → GoesWell t e → IsInOrder u → has_failed c ≡ true
    → Observed comes takes has_failed events s a u c
gone_until {S} comes takes has_failed events rest later s t u a b k c e gone now next state shown notes well behind failed =
    let P : SimState → Type 0 = λ x. IsInOrder x in
    let Q : List Event → Type 0 = λ es. Observed comes takes has_failed es t b u c in
    let going : has_failed c ≡ false → Observed comes takes has_failed later (after_event t e) c u c = λ f. absurd (differ (has_failed c) failed f) in
    gone u c (subst Q (sym next) (k, c, shown, notes, now, well, (λ _. (state, refl, subst P state behind)), going))

-- events that don't concern the observer
unheeded_first : {S : Type 0} (comes : S → SimState → Event → S → Type 0) (takes : S → Note → S → Type 0) (has_failed : S → Bool) (done rest : List Event) (s t : SimState) (a b : S) (u : SimState)
    → GoUnheeded comes a s done → has_failed a ≡ false → IsInOrder s → Observed comes takes has_failed rest (stepped_all s done) a u b → Observed comes takes has_failed (done ++ rest) s a u b
unheeded_first comes takes has_failed [] rest s t a b u h going now more = more
unheeded_first comes takes has_failed (e ∷ es) rest s t a b u (shown, silent, well, next, others) going now more =
    let P : List Note → Type 0 = λ ns. Takes takes a ns a in
    (a, a, shown, subst P (sym silent) refl, now, well, (λ f. absurd (differ (has_failed a) f going)), (λ _. unheeded_first comes takes has_failed es rest (after_event s e) t a b u others going next more))

-- past events that don't concern the observer
pub gone_past : {S : Type 0} (comes : S → SimState → Event → S → Type 0) (takes : S → Note → S → Type 0) (has_failed : S → Bool) (events rest rest' : List Event) (s t t' : SimState) (a b : S)
    → HasGone comes takes has_failed events s a rest t b → IsInOrder t → has_failed b ≡ false → PassesBy comes rest t rest' t' b → HasGone comes takes has_failed events s a rest' t' b
gone_past {S} comes takes has_failed events rest rest' s t t' a b gone now going passes u c more =
    let P : SimState → Type 0 = λ x. Observed comes takes has_failed rest' x b u c in
    let Q : List Event → Type 0 = λ es. Observed comes takes has_failed es t b u c in
    gone u c (subst Q (sym passes.whole) (unheeded_first comes takes has_failed passes.done rest' t t' b c u passes.unheeded going now (subst P passes.state more)))

-- events that go quietly concern no observer that doesn't heed time
pub quiet_unheeded : {S : Type 0} (comes : S → SimState → Event → S → Type 0) (a : S) (s : SimState) (es : List Event) → ((x : SimState) (e : Event) → is_of_time e ≡ true → comes a x e a) → GoQuietly s es → GoUnheeded comes a s es
quiet_unheeded comes a s [] still h = tt
quiet_unheeded comes a s (e ∷ es) still (one, others) =
    (still s e one.time, one.notes, (one.answered, one.follows), in_order (after_event s e) one.once one.counted one.timely one.bounded, quiet_unheeded comes a (after_event s e) es still others)

-- so it may be passed by them
pub skips_by : {S : Type 0} (comes : S → SimState → Event → S → Type 0) (events rest : List Event) (s t : SimState) (a : S) → ((x : SimState) (e : Event) → is_of_time e ≡ true → comes a x e a) → Skips events s rest t → PassesBy comes events s rest t a
skips_by comes events rest s t a still h = record { done = h.done; whole = h.whole; state = h.state; unheeded = quiet_unheeded comes a s h.done still h.quietly }

-- or by none
pub none_by : {S : Type 0} (comes : S → SimState → Event → S → Type 0) (events : List Event) (s : SimState) (a : S) → PassesBy comes events s events s a
none_by comes events s a = record { done = []; whole = refl; state = refl; unheeded = tt }

order_by : {S : Type 0} (comes : S → SimState → Event → S → Type 0) (s : SimState) (a : S) (es : List Event) → GoUnheeded comes a s es → IsInOrder s → IsInOrder (stepped_all s es)
order_by comes s a [] h now = now
order_by comes s a (e ∷ es) (shown, silent, well, next, others) now = order_by comes (after_event s e) a es others next

-- all is in order after them
pub order_past : {S : Type 0} (comes : S → SimState → Event → S → Type 0) (events rest : List Event) (s t : SimState) (a : S) → PassesBy comes events s rest t a → IsInOrder s → IsInOrder t
order_past comes events rest s t a h now = subst (λ (x : SimState). IsInOrder x) (sym h.state) (order_by comes s a h.done h.unheeded now)

-- no event is left
pub gone_to_end : {S : Type 0} (comes : S → SimState → Event → S → Type 0) (takes : S → Note → S → Type 0) (has_failed : S → Bool) (events rest : List Event) (s t : SimState) (a b : S)
    → HasGone comes takes has_failed events s a rest t b → IsInOrder t → rest ≡ [] → Observed comes takes has_failed events s a t b
gone_to_end comes takes has_failed events rest s t a b gone now none =
    let Q : List Event → Type 0 = λ es. Observed comes takes has_failed es t b t b in
    gone t b (subst Q (sym none) (refl, refl, now))

-- an observer that no event changes takes notes alone
pub unmoved : {S : Type 0} (takes : S → Note → S → Type 0) (has_failed : S → Bool) (events : List Event) (s : SimState) (a : S) (t : SimState) (b : S)
    → Observed (λ x m e y. y ≡ x) takes has_failed events s a t b → GoesThrough takes has_failed events s a t b
unmoved takes has_failed [] s a t b ran = ran
unmoved {S} takes has_failed (e ∷ es) s a t b (d, c, same, notes, now, well, ends, goes) =
    let P : S → Type 0 = λ x. Takes takes x (notes_of s e) c in
    (c, subst P same notes, now, well, ends, λ f. unmoved takes has_failed es (after_event s e) c t b (goes f))

-- ---- what it comes to

-- the events that were done, and those after a failure
pub record HasDone {S : Type 0} (takes : S → Note → S → Type 0) (has_failed : S → Bool) (events : List Event) (s : SimState) (a : S) (t : SimState) (b : S) : Type 0 where
  pub done : List Event
  pub rest : List Event
  pub whole : events ≡ done ++ rest
  pub state : t ≡ stepped_all s done
  pub in_order : StaysInOrder s done
  pub notes : Takes takes a (notes_of_all s done) b
  pub all : has_failed b ≡ false → rest ≡ []

-- of events that are gone through the first ones were taken, and all unless the sink has failed
pub what_is_done : {S : Type 0} (takes : S → Note → S → Type 0) (has_failed : S → Bool) (events : List Event) (s : SimState) (a : S) (t : SimState) (b : S)
    → GoesThrough takes has_failed events s a t b → HasDone takes has_failed events s a t b
what_is_done takes has_failed [] s a t b (state, sink, now) =
    record { done = []; rest = []; whole = refl; state = state; in_order = now; notes = sink; all = λ _. refl }
what_is_done {S} takes has_failed (e ∷ es) s a t b (c, notes, now, well, ends, goes) = by_failure (has_failed c) refl (λ x. what_is_done takes has_failed es (after_event s e) c t b (goes x))
  where
    by_failure : (f : Bool) → has_failed c ≡ f → (has_failed c ≡ false → HasDone takes has_failed es (after_event s e) c t b) → HasDone takes has_failed (e ∷ es) s a t b
    by_failure true x further =
        let end = ends x in
        let sink = end.1 in
        let P : S → Type 0 = λ y. Takes takes a (notes_of s e ++ []) y in
        let none : has_failed b ≡ false → es ≡ [] = λ y. absurd (differ (has_failed c) x (sym (ap has_failed sink) ∙ y)) in
        record { done = e ∷ []; rest = es; whole = refl; state = end.0; in_order = (now, well, end.2); notes = subst P (sym sink) (takes_both takes (notes_of s e) [] a c c notes refl); all = none }
    by_failure false x further =
        let more = further x in
        record {
          done = e ∷ more.done;
          rest = more.rest;
          whole = ap (λ fs. e ∷ fs) more.whole;
          state = more.state;
          in_order = (now, well, more.in_order);
          notes = takes_both takes (notes_of s e) (notes_of_all (after_event s e) more.done) a c b notes more.notes;
          all = more.all;
        }

-- where the sink hasn't failed, all events
pub done_all : {S : Type 0} (takes : S → Note → S → Type 0) (has_failed : S → Bool) (events : List Event) (s : SimState) (a : S) (t : SimState) (b : S)
    → GoesThrough takes has_failed events s a t b → has_failed b ≡ false → (t ≡ stepped_all s events) × StaysInOrder s events
done_all takes has_failed events s a t b ran fine =
    let h = what_is_done takes has_failed events s a t b ran in
    let all : h.done ≡ events = sym (h.whole ∙ ap (λ es. h.done ++ es) (h.all fine) ∙ append-nil h.done) in
    let P : List Event → Type 0 = λ es. StaysInOrder s es in
    (h.state ∙ ap (stepped_all s) all, subst P all h.in_order)
