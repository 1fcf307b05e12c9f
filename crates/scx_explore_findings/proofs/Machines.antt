-- Two machines that are the same but for what is left out answer events alike.
use Rattle.std.proofs.Common.{◌≡◌, ℕ, ◌+◌, ◌==◌, Bool, true, false, cond, List, [], ◌∷◌, ◌++◌, map, Option, Some, None, refl, sym, ap, ◌∙◌, subst, ◌⊎◌, inl, inr}
use Rattle.scx_sched_world.specs.declared.notes.Note.{Note}
use Rattle.scx_sched_machine.specs.declared.events.Event.{Event}
use Rattle.scx_sched_machine.specs.declared.events.Refused.{Refused}
use Rattle.scx_sched_machine.specs.declared.events.Refused.TheVariants.{RunOver}
use Rattle.scx_sched_policy.specs.Policy.{PolicyState}
use Rattle.scx_sched_machine.specs.Steps.{State, CallMade, Stepped}
use Rattle.scx_sched_machine.specs.Events.{own_step, event_step}
use Rattle.scx_sched.specs.Sim.{SimState, max_events, refusal, stepped_if, after_event, notes_if, notes_of, calls_if, calls_of}
use Rattle.scx_load_driver.specs.Runs.{notes_of_all}
use Rattle.scx_explore_findings.specs.Asked.{CallsAsk}
use Rattle.scx_explore_findings.specs.Hidden.{Hidden}
use Rattle.scx_explore_findings.specs.HiddenStates.{late_in}
use Rattle.scx_explore_findings.specs.HiddenMachines.{AreSame, AreUnread, AreAsLate, AnswersAlike}
use Rattle.scx_explore_findings.specs.HiddenLaws.{EventsDontDepend, CallsDontDepend, ListsDontDepend}
use Rattle.scx_explore_findings.specs.IdleSlices as slices
use Rattle.scx_explore_findings.specs.IdleSlices.{any_task, EventsTellNoIdleSlices, CallsTellNoIdleSlices}
use Rattle.scx_explore_findings.proofs.Omitting.{Omitted, in_call, omit_state, omit_call, omit_step, among_call}
use Rattle.scx_explore_findings.proofs.Helpers.{IsTold, told_among}
use Rattle.scx_explore_findings.proofs.Runs.{own_calls_more, own_of_all}
use Rattle.scx_explore_findings.proofs.Steps.{TellNothing, AskNone, Tells}
use Rattle.scx_explore_findings.proofs.Events.{refusal_same, late_same}
use Rattle.scx_explore_findings.proofs.AnyRounds.{passes_event}
use Rattle.scx_explore_findings.proofs.LeftOut.{omit_machine, parts_alone, parts_machine, parts_same, parts_calls, slices_alone, slices_machine, slices_same, slices_unread, slices_asked, parts_asked}

-- ---- whatever is left out

module _ (h : Omitted) where
  refusal_is : (s : SimState) (e : Event) → refusal s e ≡ refusal (omit_machine h s) e
  refusal_is s e = ap (λ (o : Option Refused). cond (s.events == max_events) (Some RunOver) o) (refusal_same h s.state e)

  module _ (s t : SimState) (same : omit_machine h s ≡ omit_machine h t) (e : Event) where
    -- an event is refused for the same cause in both
    pub refusal_there : refusal s e ≡ refusal t e
    refusal_there = refusal_is s e ∙ ap (λ (x : SimState). refusal x e) same ∙ sym (refusal_is t e)

    -- no program of the policy asks for what is left out, or none of its programs that is called in the first machine
    abbrev pub Known : Type 0
    Known = TellNothing h s.state.policy ⊎ AskNone h s.state.policy (calls_of s e)

    -- the same task or none waits too long in both
    abbrev pub Late : Type 0
    Late = Tells h s.state.policy (own_step s.state e) (own_step t.state e) → late_in s.state e ≡ late_in t.state e

    module _ (known : Known) (late : Late) where
      -- the step of an accepted event
      tells_accepted : refusal s e ≡ None → Tells h s.state.policy (event_step s.state e) (event_step t.state e)
      tells_accepted ok = go known
        where
          go : Known → Tells h s.state.policy (event_step s.state e) (event_step t.state e)
          go (inl tells) = inl tells
          go (inr asks) = inr (inl (subst (λ (o : Option Refused). AskNone h s.state.policy (calls_if o s e)) ok asks))

      accepted_is : refusal s e ≡ None → (omit_step h (event_step s.state e) ≡ omit_step h (event_step t.state e)) × ((event_step s.state e).state.policy ≡ s.state.policy)
      accepted_is ok = passes_event h s.state.policy e s.state t.state (ap (λ (x : SimState). x.state) same) refl late (tells_accepted ok)

      -- an event keeps the policy
      policy_after : (after_event s e).state.policy ≡ s.state.policy
      policy_after = go (refusal s e) refl
        where
          go : (o : Option Refused) → refusal s e ≡ o → (stepped_if o s e).state.policy ≡ s.state.policy
          go None ok = (accepted_is ok).1
          go (Some r) ok = refl

      -- the machines after the event are the same again
      pub after_there : omit_machine h (after_event s e) ≡ omit_machine h (after_event t e)
      after_there = go (refusal s e) refl ∙ ap (λ (o : Option Refused). omit_machine h (stepped_if o t e)) refusal_there
        where
          of_parts : State → ℕ → SimState
          of_parts x n = record { state = x; events = n }

          go : (o : Option Refused) → refusal s e ≡ o → omit_machine h (stepped_if o s e) ≡ omit_machine h (stepped_if o t e)
          go None ok = ap (λ (r : Stepped). of_parts r.state (s.events + 1)) (accepted_is ok).0 ∙ ap (λ (x : SimState). of_parts (omit_state h (event_step t.state e).state) (x.events + 1)) same
          go (Some r) ok = same

      -- the same is noted
      notes_there : notes_of s e ≡ notes_of t e
      notes_there = go (refusal s e) refl ∙ ap (λ (o : Option Refused). notes_if o t e) refusal_there
        where
          go : (o : Option Refused) → refusal s e ≡ o → notes_if o s e ≡ notes_if o t e
          go None ok = ap (λ (r : Stepped). r.notes) (accepted_is ok).0
          go (Some r) ok = refl

      -- the same callbacks are called
      calls_there : map (omit_call h) (calls_of s e) ≡ map (omit_call h) (calls_of t e)
      calls_there = go (refusal s e) refl ∙ ap (λ (o : Option Refused). map (omit_call h) (calls_if o t e)) refusal_there
        where
          go : (o : Option Refused) → refusal s e ≡ o → map (omit_call h) (calls_if o s e) ≡ map (omit_call h) (calls_if o t e)
          go None ok = ap (λ (r : Stepped). r.calls) (accepted_is ok).0
          go (Some r) ok = refl

-- if all calls ask for nothing that is left out, those of a policy don't
none_of_all : (h : Omitted) (p : PolicyState) (cs : List CallMade) → CallsAsk (IsTold h) cs → AskNone h p cs
none_of_all h p cs asks =
    own_calls_more (λ c. IsTold h) (λ c. IsTold (in_call h c)) (λ c. told_among h (in_call h c).idle (among_call h c.callback c.arguments)) p cs (own_of_all (IsTold h) p cs asks)

-- so both go alike, if since when tasks wait isn't left out
pub late_alike : (h : Omitted) → h.parts.waits ≡ false → (s t : SimState) (same : omit_machine h s ≡ omit_machine h t) (e : Event) → Known h s t same e → omit_machine h (after_event s e) ≡ omit_machine h (after_event t e)
late_alike h shown s t same e known =
    after_there h s t same e known (λ tells. late_same h s.state.policy shown e s.state t.state (ap (λ (x : SimState). x.state) same) refl tells)

-- ---- parts of records

module _ (h : Hidden) (s t : SimState) (e : Event) (same : AreSame h s t) (late : AreAsLate h s t e) where
  alike : omit_machine (parts_alone h) s ≡ omit_machine (parts_alone h) t
  alike = parts_same h s t same

  late_there : Late (parts_alone h) s t alike e
  late_there tells = go h.waits refl
    where
      go : (b : Bool) → h.waits ≡ b → late_in s.state e ≡ late_in t.state e
      go true hidden = late hidden
      go false shown = late_same (parts_alone h) s.state.policy shown e s.state t.state (ap (λ (x : SimState). x.state) alike) refl tells

  -- so an event is answered alike
  answers : Known (parts_alone h) s t alike e → AnswersAlike h s t e
  answers known = record {
    refusal = refusal_there (parts_alone h) s t alike e;
    notes = notes_there (parts_alone h) s t alike e known late_there;
    calls = sym (parts_calls h (calls_of s e)) ∙ calls_there (parts_alone h) s t alike e known late_there ∙ parts_calls h (calls_of t e);
    after = sym (parts_machine h (after_event s e)) ∙ after_there (parts_alone h) s t alike e known late_there ∙ parts_machine h (after_event t e);
  }

  module _ (unread : AreUnread h s.state.policy) where
    parts_told : Known (parts_alone h) s t alike e
    parts_told = inl (record { unread = unread; told = inl (λ u. refl) })

    -- what no program reads, none reads after the event
    unread_after : AreUnread h (after_event s e).state.policy
    unread_after = subst (AreUnread h) (sym (policy_after (parts_alone h) s t alike e parts_told late_there)) unread

-- two machines that are the same but for what is hidden answer an event alike
pub events_dont_depend : EventsDontDepend
events_dont_depend h s t e unread same late = answers h s t e same late (parts_told h s t e same late unread)

-- so they do where no callback that one of them calls asks for it
pub calls_dont_depend : CallsDontDepend
calls_dont_depend h s t e asks same late = answers h s t e same late (inr (none_of_all (parts_alone h) s.state.policy (calls_of s e) (parts_asked h (calls_of s e) asks)))

-- and a list of events
pub lists_dont_depend : ListsDontDepend
lists_dont_depend h s t [] unread same late = record { accepted = λ all. all; notes = refl; after = same }
lists_dont_depend h s t (e ∷ es) unread same late =
    let one = events_dont_depend h s t e unread same late.0 in
    let more = lists_dont_depend h (after_event s e) (after_event t e) es (unread_after h s t e same late.0 unread) one.after late.1 in
    record {
      accepted = λ all. (sym one.refusal ∙ all.0, more.accepted all.1);
      notes = ap (λ (ns : List Note). ns ++ notes_of_all (after_event s e) es) one.notes ∙ ap (λ (ns : List Note). notes_of t e ++ ns) more.notes;
      after = more.after;
    }

-- ---- slices

module _ (s t : SimState) (e : Event) (same : slices.AreSame s t) where
  sliceless : omit_machine (slices_alone any_task) s ≡ omit_machine (slices_alone any_task) t
  sliceless = slices_same any_task s t same

  answers_sliceless : Known (slices_alone any_task) s t sliceless e → slices.AnswersAlike s t e
  answers_sliceless known =
      let h = slices_alone any_task in
      let late : Late h s t sliceless e = λ tells. late_same h s.state.policy refl e s.state t.state (ap (λ (x : SimState). x.state) sliceless) refl tells in
      record {
        refusal = refusal_there h s t sliceless e;
        after = sym (slices_machine any_task (after_event s e)) ∙ after_there h s t sliceless e known late ∙ slices_machine any_task (after_event t e);
      }

-- under a policy that tells no slices two machines that are the same but for slices of idle tasks answer an event alike
pub events_tell_no_idle_slices : EventsTellNoIdleSlices
events_tell_no_idle_slices s t e tells same =
    answers_sliceless s t e same (inl (record { unread = slices_unread any_task s.state.policy; told = inr tells }))

-- so they do where no callback that one of them calls tells such a slice
pub calls_tell_no_idle_slices : CallsTellNoIdleSlices
calls_tell_no_idle_slices s t e asks same = answers_sliceless s t e same (inr (none_of_all (slices_alone any_task) s.state.policy (calls_of s e) (slices_asked any_task (calls_of s e) asks)))
