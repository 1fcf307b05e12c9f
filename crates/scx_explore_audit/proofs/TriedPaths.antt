-- Paths that go on by an event, and back.
use Rattle.std.proofs.Common.{◌≡◌, ℕ, List, [], ◌∷◌, ◌++◌, length, take, All, Option, Some, None, refl, sym, ap, ◌∙◌, subst}
use Rattle.std.proofs.lemmas.List.Elements.{All-push, All-take}
use Rattle.scx_sched_machine.specs.declared.events.Event.{Event}
use Rattle.scx_sched_machine.specs.declared.events.Refused.{Refused}
use Rattle.scx_sched.specs.Sim.{refusal, after_event}
use Rattle.scx_explore_findings.specs.Path.{PathState, machine_of, went_back, went_on}
use Rattle.scx_explore_findings.proofs.CommonBeginnings.{went_accepted, went_refused}
use Rattle.scx_explore_audit.specs.Claims.{IsTried}
use Rattle.scx_explore_audit.proofs.Covered.{stepped_push}

-- the machine after an event that is accepted is the one after the event
pub machine_behind : (p : PathState) (e : Event) → refusal (machine_of p) e ≡ None → machine_of (went_on p e) ≡ after_event (machine_of p) e
machine_behind p e fine = ap machine_of (went_accepted p e fine) ∙ stepped_push p.root p.events e

take_push : (es : List Event) (e : Event) → take (length es) (es ++ e ∷ []) ≡ es
take_push [] e = refl
take_push (x ∷ es) e = ap (λ (ys : List Event). x ∷ ys) (take_push es e)

-- back again the list is what it was
pub there_and_back : (p : PathState) (e : Event) → refusal (machine_of p) e ≡ None → went_back (went_on p e) (length p.events) ≡ p
there_and_back p e fine =
    ap (λ (q : PathState). went_back q (length p.events)) (went_accepted p e fine)
    ∙ ap (λ (es : List Event). record p { events = es }) (take_push p.events e)

-- each event of the list is tried, if that one is too
pub went_tried : (p : PathState) (e : Event) → All (IsTried p.root) p.events → IsTried p.root e → All (IsTried (went_on p e).root) (went_on p e).events
went_tried p e all tried = go (refusal (machine_of p) e) refl
  where
    go : (o : Option Refused) → refusal (machine_of p) e ≡ o → All (IsTried (went_on p e).root) (went_on p e).events
    go None x = subst (λ (q : PathState). All (IsTried q.root) q.events) (sym (went_accepted p e x)) (All-push (IsTried p.root) p.events e all tried)
    go (Some r) x = subst (λ (q : PathState). All (IsTried q.root) q.events) (sym (went_refused p e r x)) all

-- so of a path that went on
pub tried_on : (p q : PathState) (e : Event) → q ≡ went_on p e → All (IsTried p.root) p.events → IsTried p.root e → All (IsTried q.root) q.events
tried_on p q e on all tried = subst (λ (x : PathState). All (IsTried x.root) x.events) (sym on) (went_tried p e all tried)

-- and of one that went back
pub tried_back : (p q : PathState) (n : ℕ) → q ≡ went_back p n → All (IsTried p.root) p.events → All (IsTried q.root) q.events
tried_back p q n back all =
    subst (λ (x : PathState). All (IsTried x.root) x.events) (sym back) (All-take (IsTried p.root) n p.events all)

-- and of one that is the same
pub tried_same : (p q : PathState) → q ≡ p → All (IsTried p.root) p.events → All (IsTried q.root) q.events
tried_same p q is all = subst (λ (x : PathState). All (IsTried x.root) x.events) (sym is) all
