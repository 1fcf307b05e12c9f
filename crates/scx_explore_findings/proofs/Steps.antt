-- Callbacks and ejections lead from two states that are the same but for what is left out to two such states.
use Rattle.std.proofs.Common.{◌≡◌, ℕ, zero, suc, Bool, List, [], ◌∷◌, ◌++◌, length, map, ◌&&◌, Option, Some, None, refl, sym, ap, ◌∙◌, subst, nat_lt, ◌⊎◌, inl, inr}
use mathlib.Core.List.{map-append}
use Rattle.scx_isa_semantics.specs.declared.callbacks.Callback.{Callback}
use Rattle.scx_isa_semantics.specs.Elements.{Maps}
use Rattle.scx_isa_semantics.specs.Endings.{Ending}
use Rattle.scx_isa_semantics.specs.Machine.{start}
use Rattle.scx_vm.specs.Programs.{VerifiedProgram}
use Rattle.scx_vm.specs.Arguments.{program_arguments}
use Rattle.scx_vm.specs.declared.arguments.Args.{Args}
use Rattle.scx_sched_world.specs.declared.eject.Cause.{Cause}
use Rattle.scx_sched_world.specs.declared.eject.Eject.{Eject}
use Rattle.scx_sched_world.specs.declared.notes.Note.{Note}
use Rattle.scx_sched_world.specs.World.{WorldState, at_callback, note_now, waits, running}
use Rattle.scx_sched_world.specs.Tasks.{after_leave}
use Rattle.scx_sched_world.specs.Ejecting.{eject_of, put_builtin, put_out, after_evictions, evict_notes, after_cut, eject_note, cut_task}
use Rattle.scx_sched_policy.specs.Policy.{PolicyState, program_of}
use Rattle.scx_sched_machine.specs.Steps.{State, CallMade, Stepped, with_world, one_after_other}
use Rattle.scx_sched_machine.specs.Ejecting.{moves_over, eject, ejected_for}
use Rattle.scx_sched_machine.specs.Callbacks.{call_ending, after_callback, calls_of, cause_of, unless_ejected, acting, call_back, answered_by, noted_by}
use Rattle.scx_explore_findings.specs.Asked.{AsksWithin, IfAsksAnyhow, AskAnyhow, OwnCallsAsk}
use Rattle.scx_explore_findings.specs.Unread.{ReadsNone}
use Rattle.scx_sched_machine.proofs.Choices.{keeps_if}
use Rattle.scx_explore_findings.specs.IdleSlices.{is_idle, TellsNoSlice, TellNoSlices}
use Rattle.scx_explore_findings.proofs.Omitting.{Omitted, omit, but_at_hand, in_call, omit_state, omit_call, omit_step, IfAny, if_any, omit_as, IsOutAt, out_same, among_call}
use Rattle.scx_explore_findings.proofs.Worlds.{Hides, plain, both, hides_move_over, move_notes_same, hides_cut}
use Rattle.scx_explore_findings.proofs.Helpers.{IsTold, any_among, told_among, Wants}
use Rattle.scx_explore_findings.proofs.Runs.{asks_more, program_tells, calls_there, omit_ending, program_same, program_wants}
use Rattle.scx_explore_findings.proofs.PairedSteps.{cause_same}

-- no program asks for anything that is left out, whatever it is given and answered, and where slices are left out each
-- insert gives one
pub record TellNothing (h : Omitted) (p : PolicyState) : Type 0 where
  pub unread : AskAnyhow (ReadsNone h.parts) p
  pub told : IfAny h.idle (TellNoSlices p)

-- an ejection forgets what was wanted
eject_wants : (s : State) (x : Eject) → Wants (eject s x).state.world.call.insert
unfolding eject moves_over
eject_wants s x =
    let w = put_out s.world x in
    let u = after_evictions (length w.tasks) w in
    cut_forgets (length u.cpus) u (moved_forgets (length w.tasks) w tt)
  where
    builtin_forgets : (t : ℕ) (w : WorldState) → Wants w.call.insert → Wants (put_builtin w t).call.insert
    builtin_forgets t w h = keeps_if (λ (v : WorldState). Wants v.call.insert) (nat_lt t (length w.tasks)) _ w h h

    moved_forgets : (n : ℕ) (w : WorldState) → Wants w.call.insert → Wants (after_evictions n w).call.insert
    moved_forgets zero w h = h
    moved_forgets (suc n) w h =
        let v = after_evictions n w in
        let k = moved_forgets n w h in
        keeps_if (λ (y : WorldState). Wants y.call.insert) (waits v n) (put_builtin (after_leave v n) n) v (builtin_forgets n (after_leave v n) k) k

    task_forgets : (o : Option ℕ) (w : WorldState) → Wants w.call.insert → Wants (cut_task o w).call.insert
    task_forgets None w h = h
    task_forgets (Some t) w h = h

    cut_forgets : (n : ℕ) (w : WorldState) → Wants w.call.insert → Wants (after_cut n w).call.insert
    cut_forgets zero w h = h
    cut_forgets (suc n) w h = let v = after_cut n w in task_forgets (running v n) v (cut_forgets n w h)

module _ (h : Omitted) (p : PolicyState) where
  -- no callback that is called asks for anything that is left out in its world, if its program is the policy's
  abbrev pub AskNone : List CallMade → Type 0
  AskNone cs = OwnCallsAsk (λ c. IsTold (in_call h c)) p cs

  -- no program of the policy does, or none that is called in one of two steps
  abbrev pub Tells : Stepped → Stepped → Type 0
  Tells r q = TellNothing h p ⊎ (AskNone r.calls ⊎ AskNone q.calls)

  -- then they come to the same, under that policy still
  abbrev pub Passes : Stepped → Stepped → Type 0
  Passes r q = Tells r q → (omit_step h r ≡ omit_step h q) × (r.state.policy ≡ p)

  -- a step under that policy doesn't depend on what is left out
  abbrev pub On : (State → Stepped) → Type 0
  On f = (s : State) → s.policy ≡ p → Passes (f s) (f (omit_state h s))

  -- ---- calls of steps

  none_of : (xs ys : List CallMade) → AskNone (xs ++ ys) → AskNone xs × AskNone ys
  none_of [] ys a = (tt, a)
  none_of (x ∷ xs) ys a = let rest = none_of xs ys a.1 in ((a.0, rest.0), rest.1)

  -- what is known of both steps, if it is known of lists of calls in them
  pub tells_so : (r q r' q' : Stepped) → (AskNone r.calls → AskNone r'.calls) → (AskNone q.calls → AskNone q'.calls) → Tells r q → Tells r' q'
  tells_so r q r' q' f g (inl tells) = inl tells
  tells_so r q r' q' f g (inr (inl a)) = inr (inl (f a))
  tells_so r q r' q' f g (inr (inr a)) = inr (inr (g a))

  pub tells_first : (r r' q q' : Stepped) → Tells (one_after_other r r') (one_after_other q q') → Tells r q
  tells_first r r' q q' tells = tells_so (one_after_other r r') (one_after_other q q') r q (λ a. (none_of r.calls r'.calls a).0) (λ a. (none_of q.calls q'.calls a).0) tells

  pub tells_second : (r r' q q' : Stepped) → Tells (one_after_other r r') (one_after_other q q') → Tells r' q'
  tells_second r r' q q' tells = tells_so (one_after_other r r') (one_after_other q q') r' q' (λ a. (none_of r.calls r'.calls a).1) (λ a. (none_of q.calls q'.calls a).1) tells

  none_both : (xs ys : List CallMade) → AskNone xs → AskNone ys → AskNone (xs ++ ys)
  none_both [] ys a b = b
  none_both (x ∷ xs) ys a b = (a.0, none_both xs ys a.1 b)

  -- of the first two of three steps
  pub tells_two : (r r' r'' q q' q'' : Stepped) → Tells (one_after_other r (one_after_other r' r'')) (one_after_other q (one_after_other q' q'')) → Tells (one_after_other r r') (one_after_other q q')
  tells_two r r' r'' q q' q'' tells =
      tells_so (one_after_other r (one_after_other r' r'')) (one_after_other q (one_after_other q' q'')) (one_after_other r r') (one_after_other q q') (two r r' r'') (two q q' q'') tells
    where
      two : (x y z : Stepped) → AskNone (x.calls ++ (y.calls ++ z.calls)) → AskNone (x.calls ++ y.calls)
      two x y z a = let of = none_of x.calls (y.calls ++ z.calls) a in none_both x.calls y.calls of.0 (none_of y.calls z.calls of.1).0

  -- steps with the same calls but for what is left out
  calls_as : (r q : Stepped) → omit_step h r ≡ omit_step h q → AskNone r.calls → AskNone q.calls
  calls_as r q e a = calls_there h p r.calls q.calls (ap (λ (x : Stepped). x.calls) e) a

  -- ---- how steps are made of others

  -- what is known of two steps that come to the same as two others, which are one, is known of the first and of what it comes to
  tells_here : (r r' q q' : Stepped) → (Tells q q' → omit_step h q ≡ omit_step h q') → r' ≡ q' → Tells r q → Tells r r'
  tells_here r r' q q' other e (inl tells) = inl tells
  tells_here r r' q q' other e (inr (inl a)) = inr (inl a)
  tells_here r r' q q' other e (inr (inr a)) = inr (inr (subst (λ (x : Stepped). AskNone x.calls) (sym e) (calls_as q q' (other (inr (inl a))) a)))

  turned_round : (r q : Stepped) → Tells r q → Tells q r
  turned_round r q (inl tells) = inl tells
  turned_round r q (inr (inl a)) = inr (inr a)
  turned_round r q (inr (inr a)) = inr (inl a)

  -- a step of two states that are the same, where each of them goes as without what is left out
  module _ (f : State → Stepped) (on : On f) (s t : State) (e : omit_state h s ≡ omit_state h t) (is : s.policy ≡ p) where
    is_there : t.policy ≡ p
    is_there = sym (ap (λ (x : State). x.policy) e) ∙ is

    -- what is known of both steps is known of the first one and of what it comes to without what is left out
    pub known_here : Tells (f s) (f t) → Tells (f s) (f (omit_state h s))
    known_here tells = tells_here (f s) (f (omit_state h s)) (f t) (f (omit_state h t)) (λ k. (on t is_there k).0) (ap f e) tells

    -- and of the second one
    pub known_there : Tells (f s) (f t) → Tells (f t) (f (omit_state h t))
    known_there tells = tells_here (f t) (f (omit_state h t)) (f s) (f (omit_state h s)) (λ k. (on s is k).0) (sym (ap f e)) (turned_round (f s) (f t) tells)

    -- it comes to the same
    pub from : Passes (f s) (f t)
    from tells =
        let x = on s is (known_here tells) in
        (x.0 ∙ ap (λ (y : State). omit_step h (f y)) e ∙ sym (on t is_there (known_there tells)).0, x.1)

  joined : (r q : Stepped) → omit_step h (one_after_other r q) ≡ one_after_other (omit_step h r) (omit_step h q)
  joined r q = ap (λ (cs : List CallMade). record { state = omit_state h q.state; notes = r.notes ++ q.notes; calls = cs }) (map-append (omit_call h) r.calls q.calls)

  -- one after another
  pub joins : (r q r' q' : Stepped) → Passes r q → (omit_step h r ≡ omit_step h q → r.state.policy ≡ p → Passes r' q') → Passes (one_after_other r r') (one_after_other q q')
  joins r q r' q' first then tells =
      let e = first (tells_first r r' q q' tells) in
      let x = then e.0 e.1 (tells_second r r' q q' tells) in
      (joined r r' ∙ ap (λ (y : Stepped). one_after_other y (omit_step h r')) e.0 ∙ ap (λ (y : Stepped). one_after_other (omit_step h q) y) x.0 ∙ sym (joined q q'), x.1)

  chain : (r q : Stepped) (f : State → Stepped) → Passes r q → On f → Passes (one_after_other r (f r.state)) (one_after_other q (f q.state))
  chain r q f first on = joins r q (f r.state) (f q.state) first (λ e is. from f on r.state q.state (ap (λ (y : Stepped). y.state) e) is)

  abbrev made : State → WorldState → List Note → Stepped
  made s w ns = record { state = with_world s w; notes = ns; calls = [] }

  -- ---- an ejection

  -- all that an ejection makes of a world
  abbrev behind : Eject → WorldState → WorldState
  behind x w = let u = after_evictions (length w.tasks) (put_out w x) in after_cut (length u.cpus) u

  hides_behind : (x : Eject) → Hides h (behind x)
  hides_behind x w = both h (λ v. after_evictions (length v.tasks) v) (λ u. after_cut (length u.cpus) u) (hides_move_over h) (hides_cut h) (put_out w x)

  -- the policy is ejected
  pub passes_eject : (x : Eject) → On (λ s. eject s x)
  unfolding eject moves_over
  passes_eject x s is tells =
      let w = s.world in (
        ap (λ (u : WorldState). made s u (note_now w (eject_note x) ∷ evict_notes (length w.tasks) (put_out w x))) (hides_behind x w)
            ∙ ap (λ (ns : List Note). made s (omit h (behind x (omit h w))) (note_now w (eject_note x) ∷ ns)) (move_notes_same h (put_out w x)),
        is,
      )

  -- it is ejected if there was a cause
  passes_ejected_for : (o : Option Cause) → On (ejected_for o)
  passes_ejected_for None s is = λ tells. (ap (λ (u : WorldState). made s u []) (plain h s.world), is)
  passes_ejected_for (Some x) s is = passes_eject (eject_of x s.world.clock) s is

  -- ---- callbacks

  -- the run of a program, if there is one, asks for nothing that is left out
  abbrev AsksIn : Option VerifiedProgram → Callback → Args → Maps → WorldState → Type 0
  AsksIn q b a maps w = AskNone (calls_of q b a maps w)

  -- as that of no program of such a policy does
  tells_acting : TellNothing h p → (s : State) (b : Callback) (a : Args) (w : WorldState) → s.policy ≡ p → AsksIn (acting s b) b a s.maps w
  tells_acting tells s b a w is = unless s.world.ejected
    where
      of_program : (o : Option VerifiedProgram) → IfAsksAnyhow (ReadsNone h.parts) b o → IfAny h.idle (IfAsksAnyhow TellsNoSlice b o) → AsksIn o b a s.maps w
      of_program None unread told = tt
      of_program (Some q) unread told = (λ own n. program_tells (but_at_hand h b a) b q.code unread (any_among (but_at_hand h b a).idle h.idle (among_call h b a) told) n (program_arguments a) s.maps w, tt)

      unless : (o : Option Eject) → AsksIn (unless_ejected o (program_of s.policy b)) b a s.maps w
      unless None = subst (λ (x : PolicyState). AsksIn (program_of x b) b a s.maps w) (sym is) (of_program (program_of p b) (tells.unread b) (if_any h.idle (λ told. told b) tells.told))
      unless (Some x) = tt

  -- a program that acts is the policy's
  own : (s : State) (b : Callback) → s.policy ≡ p → (x : VerifiedProgram) → acting s b ≡ Some x → program_of p b ≡ Some x
  own s b is x e = sym (ap (λ (q : PolicyState). program_of q b) is) ∙ unless s.world.ejected e
    where
      unless : (o : Option Eject) → unless_ejected o (program_of s.policy b) ≡ Some x → program_of s.policy b ≡ Some x
      unless None k = k
      unless (Some y) k = absurd (cc)

  -- where no slice of a task at hand is left out it asks for nothing that is left out anywhere
  asks_here : (b : Callback) (a : Args) → IsOutAt h b a → (q : VerifiedProgram) (maps : Maps) (w : WorldState) (n : ℕ) → AsksWithin (IsTold (but_at_hand h b a)) b q.code n 0 (start (program_arguments a) maps) w → AsksWithin (IsTold h) b q.code n 0 (start (program_arguments a) maps) w
  asks_here b a out q maps w n asks =
      asks_more (IsTold (but_at_hand h b a)) (IsTold h) (told_among (but_at_hand h b a) h.idle (λ u e. out_same h b a out u ∙ e)) b q.code n 0 (start (program_arguments a) maps) w asks

  -- how a callback ends
  called_same : (q : Option VerifiedProgram) (b : Callback) → ((x : VerifiedProgram) → q ≡ Some x → program_of p b ≡ Some x) → (a : Args) → IsOutAt h b a → (maps : Maps) (v w : WorldState) → omit h v ≡ omit h w → AsksIn q b a maps v → omit_ending h (call_ending q b a maps v) ≡ omit_ending h (call_ending q b a maps w)
  unfolding call_ending
  called_same None b of a out maps v w same asks = ap (λ (x : WorldState). record { answer = Some 0; maps = maps; outside = x }) same
  called_same (Some q) b of a out maps v w same asks = program_same h b q.code (program_arguments a) maps v w same (λ n. asks_here b a out q maps v n (asks.0 (of q refl) n))

  -- what it wants to insert has a slice
  called_wants : (q : Option VerifiedProgram) (b : Callback) → ((x : VerifiedProgram) → q ≡ Some x → program_of p b ≡ Some x) → (a : Args) → IsOutAt h b a → (maps : Maps) (w : WorldState) → AsksIn q b a maps w → IfAny h.idle (Wants w.call.insert) → IfAny h.idle (Wants (call_ending q b a maps w).outside.call.insert)
  unfolding call_ending
  called_wants None b of a out maps w asks k = k
  called_wants (Some q) b of a out maps w asks k = program_wants h b q.code (program_arguments a) maps w (λ n. asks_here b a out q maps w n (asks.0 (of q refl) n)) k

  module _ (b : Callback) (a : Args) (t c : ℕ) (out : IsOutAt h b a) (s : State) (is : s.policy ≡ p) where
    -- the world as the callback begins
    abbrev begun : WorldState
    begun = at_callback s.world b t c

    -- what is known of the callback
    abbrev Asks : Type 0
    Asks = TellNothing h p ⊎ (AsksIn (acting s b) b a s.maps begun ⊎ AsksIn (acting s b) b a s.maps (omit h begun))

    -- what is called once it has ended
    abbrev later_calls : WorldState → List CallMade
    later_calls w = let e = call_ending (acting s b) b a s.maps w in (ejected_for (cause_of b e) (after_callback s.policy e)).calls

    called_first : (q : Option VerifiedProgram) (w : WorldState) (cs : List CallMade) → AskNone (calls_of q b a s.maps w ++ cs) → AsksIn q b a s.maps w
    called_first q w cs asks = (none_of (calls_of q b a s.maps w) cs asks).0

    asks_of : Tells (call_back s b a t c) (call_back (omit_state h s) b a t c) → Asks
    unfolding call_back
    asks_of (inl tells) = inl tells
    asks_of (inr (inl k)) = inr (inl (called_first (acting s b) begun (later_calls begun) k))
    asks_of (inr (inr k)) = inr (inr (called_first (acting s b) (omit h begun) (later_calls (omit h begun)) k))

    end_same : Asks → omit_ending h (call_ending (acting s b) b a s.maps begun) ≡ omit_ending h (call_ending (acting s b) b a s.maps (omit h begun))
    end_same (inl tells) = called_same (acting s b) b (own s b is) a out s.maps begun (omit h begun) (plain h begun) (tells_acting tells s b a begun is)
    end_same (inr (inl k)) = called_same (acting s b) b (own s b is) a out s.maps begun (omit h begun) (plain h begun) k
    end_same (inr (inr k)) = sym (called_same (acting s b) b (own s b is) a out s.maps (omit h begun) begun (sym (plain h begun)) k)

    -- what it answers
    pub answered_same : Tells (call_back s b a t c) (call_back (omit_state h s) b a t c) → answered_by s b a t c ≡ answered_by (omit_state h s) b a t c
    unfolding answered_by
    answered_same tells = ap (λ (e : Ending WorldState). e.answer) (end_same (asks_of tells))

    -- and what it notes
    pub noted_same : Tells (call_back s b a t c) (call_back (omit_state h s) b a t c) → noted_by s b a t c ≡ noted_by (omit_state h s) b a t c
    unfolding noted_by
    noted_same tells = ap (λ (e : Ending WorldState). e.outside.notes) (end_same (asks_of tells))

    end_wants : Asks → IfAny h.idle (Wants (call_ending (acting s b) b a s.maps begun).outside.call.insert)
    end_wants (inl tells) = called_wants (acting s b) b (own s b is) a out s.maps begun (tells_acting tells s b a begun is) (inr tt)
    end_wants (inr (inl k)) = called_wants (acting s b) b (own s b is) a out s.maps begun k (inr tt)
    end_wants (inr (inr k)) =
        if_any h.idle (subst Wants (sym (ap (λ (e : Ending WorldState). e.outside.call.insert) (end_same (inr (inr k))))))
        (called_wants (acting s b) b (own s b is) a out s.maps (omit h begun) k (inr tt))

  -- the same is left out in its world
  world_same : (b : Callback) (a : Args) → IsOutAt h b a → (w : WorldState) → omit (but_at_hand h b a) w ≡ omit h w
  world_same b a out w = omit_as h (but_at_hand h b a).idle w (λ u. ap (λ (x : Bool). x && is_idle w u) (out_same h b a out u))

  calls_same : (q : Option VerifiedProgram) (b : Callback) (a : Args) → IsOutAt h b a → (maps : Maps) (w : WorldState) → map (omit_call h) (calls_of q b a maps w) ≡ map (omit_call h) (calls_of q b a maps (omit h w))
  calls_same None b a out maps w = refl
  calls_same (Some q) b a out maps w =
      ap (λ (v : WorldState). record { callback = b; program = q; arguments = a; maps = maps; world = v } ∷ []) (world_same b a out w ∙ plain h w ∙ sym (world_same b a out (omit h w)))

  -- what a callback leaves, before its cause is looked at
  abbrev ended : PolicyState → List CallMade → Ending WorldState → Stepped
  ended q cs e = record { state = after_callback q e; notes = e.outside.notes; calls = cs }

  ended_same : (q : PolicyState) (cs ds : List CallMade) (e f : Ending WorldState) → q ≡ p → map (omit_call h) cs ≡ map (omit_call h) ds → omit_ending h e ≡ omit_ending h f → Passes (ended q cs e) (ended q ds f)
  ended_same q cs ds e f is x y tells =
      (ap (λ (us : List CallMade). ended q us (omit_ending h e)) x ∙ ap (λ (u : Ending WorldState). ended q (map (omit_call h) ds) u) y, is)

  -- a callback is called, and what follows it
  pub passes_call_back : (b : Callback) (a : Args) (t c : ℕ) → IsOutAt h b a → On (λ s. call_back s b a t c)
  unfolding call_back
  passes_call_back b a t c out s is tells = go (end_same b a t c out s is (asks_of b a t c out s is tells)) tells
    where
      w : WorldState
      w = at_callback s.world b t c

      e : Ending WorldState
      e = call_ending (acting s b) b a s.maps w

      f : Ending WorldState
      f = call_ending (acting s b) b a s.maps (omit h w)

      cs : List CallMade
      cs = calls_of (acting s b) b a s.maps w

      ds : List CallMade
      ds = calls_of (acting s b) b a s.maps (omit h w)

      go : omit_ending h e ≡ omit_ending h f → Passes (call_back s b a t c) (call_back (omit_state h s) b a t c)
      go same =
          subst (λ (o : Option Cause). Passes (one_after_other (ended s.policy cs e) (ejected_for (cause_of b e) (after_callback s.policy e))) (one_after_other (ended s.policy ds f) (ejected_for o (after_callback s.policy f))))
          (cause_same b e f (ap (λ (x : Ending WorldState). x.answer) same) (ap (λ (x : Ending WorldState). x.outside.call.cause) same) (ap (λ (x : Ending WorldState). x.outside.cpus) same))
          (chain (ended s.policy cs e) (ended s.policy ds f) (ejected_for (cause_of b e)) (ended_same s.policy cs ds e f is (calls_same (acting s b) b a out s.maps w) same) (passes_ejected_for (cause_of b e)))

  -- what a callback wants has a slice, as its program gives one, and an ejection forgets it
  ejected_wants : (o : Option Cause) (s : State) → Wants s.world.call.insert → Wants (ejected_for o s).state.world.call.insert
  ejected_wants None s k = k
  ejected_wants (Some x) s k = eject_wants s (eject_of x s.world.clock)

  pub call_back_wants : (b : Callback) (a : Args) (t c : ℕ) → IsOutAt h b a → (s : State) → s.policy ≡ p → Tells (call_back s b a t c) (call_back (omit_state h s) b a t c) → IfAny h.idle (Wants (call_back s b a t c).state.world.call.insert)
  unfolding call_back
  call_back_wants b a t c out s is tells =
      let e = call_ending (acting s b) b a s.maps (at_callback s.world b t c) in
      if_any h.idle (ejected_wants (cause_of b e) (after_callback s.policy e)) (end_wants b a t c out s is (asks_of b a t c out s is tells))
