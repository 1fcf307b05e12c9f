-- The rest of a list decides, as long as the policy stays in force in the part before it.
use Rattle.std.proofs.Common.{◌≡◌, ℕ, zero, suc, ◌+◌, ◌<◌, ◌≤◌, ◌⊎◌, inl, inr, List, [], ◌∷◌, ◌++◌, length, take, drop, get_or, Option, Some, None, Ok, Err, unwrap_or, refl, sym, ap, ◌∙◌, subst, append_assoc, arith}
use Rattle.std.proofs.lemmas.Bool.{cases_lt}
use Rattle.std.proofs.lemmas.List.{append-nil, take_more, drop_more, get_or_default}
use Rattle.scx_sched_world.specs.declared.eject.Eject.{Eject}
use Rattle.scx_sched_world.specs.declared.notes.Note.{Note}
use Rattle.scx_sched_machine.specs.declared.events.Event.{Event}
use Rattle.scx_sched_machine.specs.declared.events.Refused.{Refused}
use Rattle.scx_sched_machine.specs.Notes.{Takes}
use Rattle.scx_sched_machine.proofs.Taking.{Takes-append}
use Rattle.scx_sched.specs.Sim.{SimState, refusal, stepped_if, after_event, notes_if, notes_of, answer_of}
use Rattle.scx_load_driver.specs.Runs.{stepped_all, notes_of_all, AreAccepted}
use Rattle.scx_explore_findings.specs.declared.outcome.Outcome.{Outcome}
use Rattle.scx_explore_findings.specs.declared.outcome.Outcome.TheVariants as outcome
use Rattle.scx_explore_findings.specs.Outcomes.{end_of, outcome_from, outcome_of, done_of, after_first, IsInForceFor, Happens}
use Rattle.scx_explore_findings.proofs.ListMachines.{stepped_push}

-- ---- one event after others

notes_push : (s : SimState) (es : List Event) (e : Event) → notes_of_all s (es ++ e ∷ []) ≡ notes_of_all s es ++ notes_of (stepped_all s es) e
notes_push s [] e = append-nil (notes_of s e)
notes_push s (x ∷ es) e = ap (λ (ns : List Note). notes_of s x ++ ns) (notes_push (after_event s x) es e) ∙ sym (append_assoc (notes_of s x) (notes_of_all (after_event s x) es) (notes_of (stepped_all (after_event s x) es) e))

-- so is the list with one more that is accepted
accepted_push : (s : SimState) (es : List Event) (e : Event) → AreAccepted s es → refusal (stepped_all s es) e ≡ None → AreAccepted s (es ++ e ∷ [])
accepted_push s [] e h fine = (fine, tt)
accepted_push s (x ∷ es) e h fine = (h.0, accepted_push (after_event s x) es e h.1 fine)

-- what was answered says whether it was refused
pub is_accepted : (o : Option Refused) (u : Unit {0}) → Ok u ≡ answer_of o → o ≡ None
is_accepted None u e = refl
is_accepted (Some r) u e = absurd (cc)

-- and for which cause
pub is_refused : (o : Option Refused) (r : Refused) → Err r ≡ answer_of o → o ≡ Some r
is_refused None r e = absurd (cc)
is_refused (Some x) r e = cc

-- ---- what a step answers

-- an event that is refused is the end
pub end_refused : (o : Option Refused) (x : Option Eject) (at : ℕ) (r : Refused) → Err r ≡ answer_of o → Some (outcome.Refused at r) ≡ end_of o x at
end_refused None x at r e = absurd (cc)
end_refused (Some q) x at r e =
    let same : r ≡ q = cc in
    ap (λ (y : Refused). Some (outcome.Refused at y)) same

-- one that is accepted is, if it ejects the policy
pub end_accepted : (o : Option Refused) (x y : Option Eject) (at : ℕ) (u : Unit {0}) → Ok u ≡ answer_of o → x ≡ y → end_of None x at ≡ end_of o y at
end_accepted None x y at u e same = ap (λ (z : Option Eject). end_of None z at) same
end_accepted (Some r) x y at u e same = absurd (cc)

-- ---- how far it was gone, and how it ends

-- that many events are done, and the machine and the sink are these
pub record IsGone (s : SimState) (events : List Event) {S : Type 0} (takes : S → Note → S → Type 0) (a : S) (at : ℕ) (t : SimState) (b : S) : Type 0 where
  pub state : t ≡ after_first s events at
  pub notes : Takes takes a (notes_of_all s (take at events)) b
  pub outcome : outcome_of s events ≡ outcome_from at t (drop at events)
  pub before : IsInForceFor s events at

-- with the outcome, what the call says
pub record HasEnded (s : SimState) (events : List Event) {S : Type 0} (takes : S → Note → S → Type 0) (a : S) (o : Outcome) (t : SimState) (b : S) : Type 0 where
  pub answer : o ≡ outcome_of s events
  pub happens : Happens s events o
  pub state : t ≡ after_first s events (done_of o events)
  pub notes : Takes takes a (notes_of_all s (take (done_of o events) events)) b

module _ (s : SimState) (events : List Event) where
  -- ---- the run of the beginnings

  after_more : (n : ℕ) (d : Event) → n < length events → after_first s events (n + 1) ≡ after_event (after_first s events n) (get_or events n d)
  after_more n d l = ap (λ (es : List Event). stepped_all s es) (take_more events n d l) ∙ stepped_push s (take n events) (get_or events n d)

  notes_more : (n : ℕ) (d : Event) → n < length events → notes_of_all s (take (n + 1) events) ≡ notes_of_all s (take n events) ++ notes_of (after_first s events n) (get_or events n d)
  notes_more n d l = ap (λ (es : List Event). notes_of_all s es) (take_more events n d l) ∙ notes_push s (take n events) (get_or events n d)

  accepted_more : (n : ℕ) (d : Event) → n < length events → AreAccepted s (take n events) → refusal (after_first s events n) (get_or events n d) ≡ None → AreAccepted s (take (n + 1) events)
  accepted_more n d l h fine = subst (λ (es : List Event). AreAccepted s es) (sym (take_more events n d l)) (accepted_push s (take n events) (get_or events n d) h fine)

  -- in force for one event more
  force_more : (n : ℕ) (d : Event) → n < length events → IsInForceFor s events n → refusal (after_first s events n) (get_or events n d) ≡ None → (after_first s events (n + 1)).state.world.ejected ≡ None → IsInForceFor s events (n + 1)
  force_more n d l h fine force = record {
    inside = omega (arith, l);
    accepted = accepted_more n d l h.accepted fine;
    force = λ k low. go k low (cases_lt n k);
  }
    where
      go : (k : ℕ) → k ≤ n + 1 → (n < k) ⊎ (k ≤ n) → (after_first s events k).state.world.ejected ≡ None
      go k low (inr l) = h.force k l
      go k low (inl l) = let same : n + 1 ≡ k = omega (arith, low, l) in subst (λ (i : ℕ). (after_first s events i).state.world.ejected ≡ None) same force

  -- in force before the first event
  force_first : s.state.world.ejected ≡ None → IsInForceFor s events 0
  force_first force = record { inside = omega arith; accepted = tt; force = λ k low. subst (λ (i : ℕ). (after_first s events i).state.world.ejected ≡ None) (none k low) force }
    where
      none : (k : ℕ) → k ≤ 0 → 0 ≡ k
      none k low = omega (arith, low)

  module _ {S : Type 0} (takes : S → Note → S → Type 0) (a : S) where
    -- before the first event
    pub gone_nowhere : s.state.world.ejected ≡ None → IsGone s events takes a 0 s a
    gone_nowhere force = record { state = refl; notes = refl; outcome = refl; before = force_first force }

    -- what comes of the list, where the next event does this
    next_outcome : (at : ℕ) (t : SimState) (b : S) (d : Event) (o : Option Refused) (x : Option Eject) → at < length events → IsGone s events takes a at t b → refusal t (get_or events at d) ≡ o → (after_event t (get_or events at d)).state.world.ejected ≡ x
        → outcome_of s events ≡ unwrap_or (end_of o x at) (outcome_from (at + 1) (after_event t (get_or events at d)) (drop (at + 1) events))
    next_outcome at t b d o x l h refused out = h.outcome ∙ (ap (λ (es : List Event). outcome_from at t es) (drop_more events at d l) ∙ (ap (λ (z : Option Refused). unwrap_or (end_of z (after_event t e).state.world.ejected at) more) refused ∙ ap (λ (z : Option Eject). unwrap_or (end_of o z at) more) out))
      where
        e : Event
        e = get_or events at d

        more : Outcome
        more = outcome_from (at + 1) (after_event t e) (drop (at + 1) events)

    -- the machine's own event, with its notes
    notes_next : (at : ℕ) (t : SimState) (b c : S) (d : Event) → at < length events → IsGone s events takes a at t b → Takes takes b (notes_of t (get_or events at d)) c → Takes takes a (notes_of_all s (take (at + 1) events)) c
    notes_next at t b c d l h more =
        let e = get_or events at d in
        let now = subst (λ (x : SimState). Takes takes b (notes_of x e) c) h.state more in
        subst (λ (ns : List Note). Takes takes a ns c) (sym (notes_more at d l)) (Takes-append takes a b c (notes_of_all s (take at events)) (notes_of (after_first s events at) e) h.notes now)

    state_next : (at : ℕ) (t u : SimState) (b : S) (d : Event) → at < length events → IsGone s events takes a at t b → u ≡ after_event t (get_or events at d) → u ≡ after_first s events (at + 1)
    state_next at t u b d l h is = is ∙ (ap (λ (x : SimState). after_event x (get_or events at d)) h.state ∙ sym (after_more at d l))

    fine_here : (at : ℕ) (t : SimState) (b : S) (d : Event) (o : Option Refused) → IsGone s events takes a at t b → refusal t (get_or events at d) ≡ o → refusal (after_first s events at) (get_or events at d) ≡ o
    fine_here at t b d o h fine = subst (λ (x : SimState). refusal x (get_or events at d) ≡ o) h.state fine

    -- one event further
    pub gone_further : (at : ℕ) (t u : SimState) (b c : S) (d : Event) → at < length events → IsGone s events takes a at t b → refusal t (get_or events at d) ≡ None → u ≡ after_event t (get_or events at d) → Takes takes b (notes_of t (get_or events at d)) c → u.state.world.ejected ≡ None → IsGone s events takes a (at + 1) u c
    gone_further at t u b c d l h fine is more force = record {
      state = state_next at t u b d l h is;
      notes = notes_next at t b c d l h more;
      outcome = next_outcome at t b d None None l h fine (subst (λ (x : SimState). x.state.world.ejected ≡ None) is force) ∙ ap (λ (x : SimState). outcome_from (at + 1) x (drop (at + 1) events)) (sym is);
      before = force_more at d l h.before (fine_here at t b d None h fine) (subst (λ (x : SimState). x.state.world.ejected ≡ None) (state_next at t u b d l h is) force);
    }

    -- ---- how it ends

    -- no event is left
    pub ended_in_force : (at : ℕ) (t : SimState) (b : S) → length events ≤ at → IsGone s events takes a at t b → HasEnded s events takes a outcome.InForce t b
    ended_in_force at t b past h = record {
      answer = sym (h.outcome ∙ ap (λ (es : List Event). outcome_from at t es) (none events at past));
      happens = subst (λ (n : ℕ). IsInForceFor s events n) all h.before;
      state = h.state ∙ ap (λ (n : ℕ). after_first s events n) all;
      notes = subst (λ (n : ℕ). Takes takes a (notes_of_all s (take n events)) b) all h.notes;
    }
      where
        all : at ≡ length events
        all = omega (arith, past, h.before.inside)

        none : (es : List Event) (n : ℕ) → length es ≤ n → drop n es ≡ []
        none [] zero l = refl
        none [] (suc n) l = refl
        none (e ∷ es) zero l = absurd (omega (arith, l))
        none (e ∷ es) (suc n) l = none es n (omega (arith, l))

    -- the policy is ejected
    pub ended_ejected : (at : ℕ) (t u : SimState) (b c : S) (d : Event) (x : Eject) → at < length events → IsGone s events takes a at t b → refusal t (get_or events at d) ≡ None → u ≡ after_event t (get_or events at d) → Takes takes b (notes_of t (get_or events at d)) c → u.state.world.ejected ≡ Some x → HasEnded s events takes a (outcome.Ejected at x) u c
    ended_ejected at t u b c d x l h fine is more out = record {
      answer = sym (next_outcome at t b d None (Some x) l h fine (subst (λ (y : SimState). y.state.world.ejected ≡ Some x) is out));
      happens = record {
        inside = l;
        before = h.before;
        accepted = accepted_more at d l h.before.accepted (fine_here at t b d None h fine);
        out = subst (λ (y : SimState). y.state.world.ejected ≡ Some x) (state_next at t u b d l h is) out;
      };
      state = state_next at t u b d l h is;
      notes = notes_next at t b c d l h more;
    }

    -- an event is refused
    pub ended_refused : (at : ℕ) (t u : SimState) (b c : S) (d : Event) (r : Refused) → at < length events → IsGone s events takes a at t b → refusal t (get_or events at d) ≡ Some r → u ≡ t → Takes takes b (notes_of t (get_or events at d)) c → HasEnded s events takes a (outcome.Refused at r) u c
    ended_refused at t u b c d r l h refused is more = record {
      answer = sym (next_outcome at t b d (Some r) (after_event t e).state.world.ejected l h refused refl);
      happens = record {
        inside = l;
        before = h.before;
        refused = λ k. subst (λ (y : Event). refusal (after_first s events at) y ≡ Some r) (get_or_default events at d k l) (fine_here at t b d (Some r) h refused);
      };
      state = is ∙ h.state;
      notes = subst (λ (y : S). Takes takes a (notes_of_all s (take at events)) y) (sym none) h.notes;
    }
      where
        e : Event
        e = get_or events at d

        none : c ≡ b
        none = subst (λ (o : Option Refused). Takes takes b (notes_if o t e) c) refused more

    -- ---- by what a step answers

    some_same : (x y : Outcome) → Some x ≡ Some y → y ≡ x
    some_same x y e = cc

    none_same : (x : Outcome) → ◌≡◌ {A = Option Outcome} (Some x) None → ⊥
    none_same x e = absurd (cc)

    module _ (at : ℕ) (t u : SimState) (b c : S) (d : Event) (l : at < length events) (h : IsGone s events takes a at t b) (is : u ≡ after_event t (get_or events at d)) (more : Takes takes b (notes_of t (get_or events at d)) c) where
      -- it has ended so
      pub ended : (o : Outcome) → Some o ≡ end_of (refusal t (get_or events at d)) (after_event t (get_or events at d)).state.world.ejected at → HasEnded s events takes a o u c
      ended o end = go (refusal t e) (after_event t e).state.world.ejected refl refl end
        where
          e : Event
          e = get_or events at d

          go : (r : Option Refused) (x : Option Eject) → refusal t e ≡ r → (after_event t e).state.world.ejected ≡ x → Some o ≡ end_of r x at → HasEnded s events takes a o u c
          go (Some r) x refused out z =
              let same : u ≡ t = is ∙ ap (λ (w : Option Refused). stepped_if w t e) refused in
              subst (λ (y : Outcome). HasEnded s events takes a y u c) (some_same o (outcome.Refused at r) z) (ended_refused at t u b c d r l h refused same more)
          go None (Some x) fine out z = subst (λ (y : Outcome). HasEnded s events takes a y u c) (some_same o (outcome.Ejected at x) z) (ended_ejected at t u b c d x l h fine is more (subst (λ (y : SimState). y.state.world.ejected ≡ Some x) (sym is) out))
          go None None fine out z = absurd (none_same o z)

      -- or it goes on
      pub goes_on : end_of (refusal t (get_or events at d)) (after_event t (get_or events at d)).state.world.ejected at ≡ None → IsGone s events takes a (at + 1) u c
      goes_on on = go (refusal t e) (after_event t e).state.world.ejected refl refl on
        where
          e : Event
          e = get_or events at d

          go : (r : Option Refused) (x : Option Eject) → refusal t e ≡ r → (after_event t e).state.world.ejected ≡ x → end_of r x at ≡ None → IsGone s events takes a (at + 1) u c
          go (Some r) x refused out z = absurd (none_same (outcome.Refused at r) z)
          go None (Some x) fine out z = absurd (none_same (outcome.Ejected at x) z)
          go None None fine out z = gone_further at t u b c d l h fine is more (subst (λ (y : SimState). y.state.world.ejected ≡ None) (sym is) out)
