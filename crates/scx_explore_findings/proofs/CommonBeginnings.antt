-- A path goes over to another list, event by event.
use Rattle.std.proofs.Common.{◌≡◌, ℕ, ◌+◌, ◌<◌, ◌≤◌, List, [], ◌∷◌, ◌++◌, length, take, drop, get_or, Option, Some, None, is_none, if◌then◌else◌, Ok, Err, refl, sym, ap, ◌∙◌, subst, arith}
use Rattle.std.proofs.lemmas.List.{take_more, drop_more, take_all, take-append-drop, take_more_same}
use Rattle.scx_sched_machine.specs.declared.events.Event.{Event}
use Rattle.scx_sched_machine.specs.declared.events.Refused.{Refused}
use Rattle.scx_sched.specs.Sim.{refusal, answer_of}
use Rattle.scx_explore_findings.specs.Path.{PathState, machine_of, went_on, IsRefusedBehind, SharesBeginning}
use Rattle.scx_explore_findings.proofs.Replaying.{is_accepted, is_refused}

-- an accepted event is appended to the list
pub went_accepted : (p : PathState) (e : Event) → refusal (machine_of p) e ≡ None → went_on p e ≡ record p { events = p.events ++ e ∷ [] }
went_accepted p e fine = ap (λ (o : Option Refused). if is_none o then record p { events = p.events ++ e ∷ [] } else p) fine

-- one that is refused changes nothing
pub went_refused : (p : PathState) (e : Event) (r : Refused) → refusal (machine_of p) e ≡ Some r → went_on p e ≡ p
went_refused p e r refused = ap (λ (o : Option Refused). if is_none o then record p { events = p.events ++ e ∷ [] } else p) refused

-- in any case what doesn't depend on the list stays
went_keeps : {A : Type 0} (f : PathState → A) → ((es : List Event) (q : PathState) → f (record q { events = es }) ≡ f q) → (p : PathState) (e : Event) → f (went_on p e) ≡ f p
went_keeps f same p e = go (refusal (machine_of p) e) refl
  where
    go : (o : Option Refused) → refusal (machine_of p) e ≡ o → f (went_on p e) ≡ f p
    go None x = ap f (went_accepted p e x) ∙ same (p.events ++ e ∷ []) p
    go (Some r) x = ap f (went_refused p e r x)

-- so the list begins where it did
pub went_root : (p : PathState) (e : Event) → (went_on p e).root ≡ p.root
went_root p e = went_keeps (λ (q : PathState). q.root) (λ es q. refl) p e

-- and has as much room
pub went_room : (p : PathState) (e : Event) → (went_on p e).room ≡ p.room
went_room p e = went_keeps (λ (q : PathState). q.room) (λ es q. refl) p e

-- one event further on the way to the list
pub further : (p q : PathState) (events : List Event) (n : ℕ) (d : Event) (u : Unit {0}) → q ≡ went_on p (get_or events n d) → Ok u ≡ answer_of (refusal (machine_of p) (get_or events n d)) → p.events ≡ take n events → n < length events → q.events ≡ take (n + 1) events
further p q events n d u went answer list l =
    ap (λ (x : PathState). x.events) (went ∙ went_accepted p (get_or events n d) (is_accepted (refusal (machine_of p) (get_or events n d)) u answer))
    ∙ (ap (λ (es : List Event). es ++ get_or events n d ∷ []) list ∙ sym (take_more events n d l))

-- or the event is refused
pub stopped : (p q : PathState) (events : List Event) (n : ℕ) (d : Event) (r : Refused) → q ≡ went_on p (get_or events n d) → Err r ≡ answer_of (refusal (machine_of p) (get_or events n d)) → p.events ≡ take n events → n < length events → IsRefusedBehind q events r
stopped p q events n d r went answer list l = subst (λ (x : PathState). IsRefusedBehind x events r) (sym (went ∙ went_refused p e r refused)) (record {
  event = e;
  rest = drop (n + 1) events;
  list = sym (take-append-drop n events) ∙ (ap (λ (es : List Event). es ++ drop n events) (sym list) ∙ ap (λ (es : List Event). p.events ++ es) (drop_more events n d l));
  refused = refused;
})
  where
    e : Event
    e = get_or events n d

    refused : refusal (machine_of p) e ≡ Some r
    refused = is_refused (refusal (machine_of p) e) r answer

-- all of it
pub arrived : (p : PathState) (events : List Event) (n : ℕ) → p.events ≡ take n events → length events ≤ n → p.events ≡ events
arrived p events n list past = list ∙ take_all n events past

-- ---- what two lists begin with

-- so far nothing
pub shares_none : (xs ys : List Event) → SharesBeginning 0 xs ys
shares_none xs ys = record { first = omega arith; second = omega arith; same = refl }

-- one event more
pub shares_more : (xs ys : List Event) (n : ℕ) (d : Event) → n < length xs → n < length ys → ((k : Event) → get_or ys n k ≡ get_or xs n d) → SharesBeginning n xs ys → SharesBeginning (n + 1) xs ys
shares_more xs ys n d l k same h = record { first = omega (arith, l); second = omega (arith, k); same = take_more_same xs ys n d l k h.same (sym (same d)) }

-- all of the first one
pub shares_all : (xs ys : List Event) (n : ℕ) → length xs ≤ n → SharesBeginning n xs ys → SharesBeginning (length xs) xs ys
shares_all xs ys n past h = let all : n ≡ length xs = omega (arith, past, h.first) in subst (λ (k : ℕ). SharesBeginning k xs ys) all h
