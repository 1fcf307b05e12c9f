-- Callbacks and ejections lead from a state that is later to one that is later by as much.
use Rattle.std.proofs.Common.{◌≡◌, ℕ, ◌+◌, List, [], ◌∷◌, ◌++◌, length, map, Option, Some, None, refl, sym, ap, ◌∙◌, subst}
use mathlib.Core.List.{map-append}
use Rattle.scx_isa_semantics.specs.declared.callbacks.Callback.{Callback}
use Rattle.scx_isa_semantics.specs.declared.rules.Rules.{Rules}
use Rattle.scx_isa_semantics.specs.Elements.{Maps}
use Rattle.scx_isa_semantics.specs.Endings.{Ending}
use Rattle.scx_vm.specs.Programs.{VerifiedProgram}
use Rattle.scx_vm.specs.Arguments.{program_arguments}
use Rattle.scx_vm.specs.declared.arguments.Args.{Args}
use Rattle.scx_sched_world.specs.declared.eject.Cause.{Cause}
use Rattle.scx_sched_world.specs.declared.eject.Cause.TheVariants as reason
use Rattle.scx_sched_world.specs.declared.eject.Eject.{Eject}
use Rattle.scx_sched_world.specs.declared.eject.Eject.TheVariants as cause
use Rattle.scx_sched_world.specs.declared.notes.Note.{Note}
use Rattle.scx_sched_world.specs.declared.notes.What.{What}
use Rattle.scx_sched_world.specs.World.{WorldState, at_callback, note_now}
use Rattle.scx_sched_world.specs.Ejecting.{eject_of, put_out, after_evictions, evict_notes, after_cut, eject_note}
use Rattle.scx_sched_policy.specs.Policy.{PolicyState, program_of}
use Rattle.scx_sched_machine.specs.Steps.{State, CallMade, Stepped, with_world, after, one_after_other}
use Rattle.scx_sched_machine.specs.Ejecting.{moves_over, eject, ejected_for}
use Rattle.scx_sched_machine.specs.Callbacks.{call_ending, after_callback, calls_of, cause_of, unless_ejected, acting, call_back, answered_by, noted_by}
use Rattle.scx_sched.proofs.Unchanged.{same_called, eject_sets}
use Rattle.scx_explore_findings.specs.Delayed.{later_eject, delayed_eject, delayed_note, delay, delay_state, delay_call, delay_step, IsClockless}
use Rattle.scx_explore_findings.proofs.DelayedWorlds.{both, delays_move_over, move_notes_of, delays_cut}
use Rattle.scx_explore_findings.proofs.DelayedRuns.{delay_ending, program_as}
use Rattle.scx_explore_findings.proofs.PairedSteps.{cause_same}

module _ (k : ℕ) (p : PolicyState) (rules : Rules) where
  -- a state under that policy, by those rules
  abbrev pub IsUnder : State → Type 0
  IsUnder s = (s.policy ≡ p) × (s.world.rules ≡ rules)

  -- what one step comes to the other comes to later, under that policy and by those rules still
  abbrev pub Passes : Stepped → Stepped → Type 0
  Passes r q = (delay_step k r ≡ q) × IsUnder r.state

  -- such a step comes to the same later, from a state that is later
  abbrev On : (State → Stepped) → Type 0
  On f = (s : State) → IsUnder s → Passes (f s) (f (delay_state k s))

  -- two such states of which the one is later
  abbrev pub IsLater : State → State → Type 0
  IsLater s t = (delay_state k s ≡ t) × IsUnder s

  -- ---- how steps are made of others

  joined : (r q : Stepped) → delay_step k (one_after_other r q) ≡ one_after_other (delay_step k r) (delay_step k q)
  joined r q =
      ap (λ (ns : List Note). record { state = delay_state k q.state; notes = ns; calls = map (delay_call k) (r.calls ++ q.calls) }) (map-append (delayed_note k) r.notes q.notes)
      ∙ ap (λ (cs : List CallMade). record { state = delay_state k q.state; notes = map (delayed_note k) r.notes ++ map (delayed_note k) q.notes; calls = cs }) (map-append (delay_call k) r.calls q.calls)

  -- one after another
  pub joins : (r q r' q' : Stepped) → Passes r q → (IsLater r.state q.state → Passes r' q') → Passes (one_after_other r r') (one_after_other q q')
  joins r q r' q' e next =
      let x = next (ap (λ (y : Stepped). y.state) e.0, e.1) in
      (joined r r' ∙ ap (one_after_other (delay_step k r)) x.0 ∙ ap (λ (y : Stepped). one_after_other y q') e.0, x.1)

  chain : (r q : Stepped) (f : State → Stepped) → Passes r q → On f → Passes (one_after_other r (f r.state)) (one_after_other q (f q.state))
  chain r q f e on = joins r q (f r.state) (f q.state) e (λ h. ((on r.state h.1).0 ∙ ap f h.0, (on r.state h.1).1))

  -- with a note in front
  pub noted : (s t : State) → IsLater s t → (x : What) (r q : Stepped) → Passes r q → Passes (after (note_now s.world x ∷ []) r) (after (note_now t.world x ∷ []) q)
  noted s t e x r q h = (ap (λ (y : Stepped). after (note_now (delay k s.world) x ∷ []) y) h.0 ∙ ap (λ (y : State). after (note_now y.world x ∷ []) q) e.0, h.1)

  abbrev made : State → WorldState → List Note → Stepped
  made s w ns = record { state = with_world s w; notes = ns; calls = [] }

  -- ---- an ejection

  -- all that an ejection makes of a world
  abbrev behind : Eject → WorldState → WorldState
  behind x w = let u = after_evictions (length w.tasks) (put_out w x) in after_cut (length u.cpus) u

  delays_behind : (x : Eject) (w : WorldState) → delay k (behind x w) ≡ behind (later_eject k x) (delay k w)
  delays_behind x w = both k (λ v. after_evictions (length v.tasks) v) (λ u. after_cut (length u.cpus) u) (delays_move_over k) (delays_cut k) (put_out w x)

  note_as : (x : Eject) → eject_note x ≡ eject_note (later_eject k x)
  note_as (cause.Stall t n) = refl
  note_as (cause.Fault f n) = refl
  note_as (cause.Exit c n) = refl

  -- the policy is ejected
  pub passes_eject : (x : Eject) (s : State) → IsUnder s → Passes (eject s x) (eject (delay_state k s) (later_eject k x))
  unfolding eject moves_over
  passes_eject x s is =
      let w = s.world in
      let y = later_eject k x in
      let at : List Note → Stepped = λ ns. made (delay_state k s) (behind y (delay k w)) ns in (
        ap (λ (u : WorldState). made (delay_state k s) u (map (delayed_note k) (note_now w (eject_note x) ∷ evict_notes (length w.tasks) (put_out w x)))) (delays_behind x w)
            ∙ ap (λ (ns : List Note). at (note_now (delay k w) (eject_note x) ∷ ns)) (move_notes_of k (put_out w x))
            ∙ ap (λ (e : What). at (note_now (delay k w) e ∷ evict_notes (length (delay k w).tasks) (put_out (delay k w) y))) (note_as x),
        (is.0, (eject_sets s x).4 ∙ is.1),
      )

  later_of : (x : Cause) (n : ℕ) → later_eject k (eject_of x n) ≡ eject_of x (n + k)
  later_of (reason.Fault f) n = refl
  later_of (reason.Exit c) n = refl

  -- it is ejected if there was a cause
  passes_ejected_for : (o : Option Cause) → On (ejected_for o)
  passes_ejected_for None s is = (refl, is)
  passes_ejected_for (Some x) s is =
      subst (λ (y : Eject). Passes (eject s (eject_of x s.world.clock)) (eject (delay_state k s) y)) (later_of x s.world.clock) (passes_eject (eject_of x s.world.clock) s is)

  -- ---- callbacks

  -- the program of a callback
  pub acting_as : (s : State) (b : Callback) → acting s b ≡ acting (delay_state k s) b
  acting_as s b = go s.world.ejected
    where
      go : (o : Option Eject) → unless_ejected o (program_of s.policy b) ≡ unless_ejected (delayed_eject k o) (program_of s.policy b)
      go None = refl
      go (Some x) = refl

  module _ (none : (b : Callback) → IsClockless (program_of p b)) where
    none_of : (b : Callback) (q : PolicyState) → q ≡ p → IsClockless (program_of q b)
    none_of b q e = subst (λ (x : PolicyState). IsClockless (program_of x b)) (sym e) (none b)

    none_acting : (s : State) (b : Callback) → s.policy ≡ p → IsClockless (acting s b)
    none_acting s b is = go s.world.ejected
      where
        go : (o : Option Eject) → IsClockless (unless_ejected o (program_of s.policy b))
        go None = none_of b s.policy is
        go (Some x) = tt

    -- how a callback ends
    called_as : (q : Option VerifiedProgram) → IsClockless q → (b : Callback) (a : Args) (maps : Maps) (w : WorldState) → delay_ending k (call_ending q b a maps w) ≡ call_ending q b a maps (delay k w)
    unfolding call_ending
    called_as None fine b a maps w = refl
    called_as (Some q) fine b a maps w = program_as k b q.code fine (program_arguments a) maps w

    abbrev ends : State → Callback → Args → ℕ → ℕ → Option VerifiedProgram → Ending WorldState
    ends s b a t c q = call_ending q b a s.maps (at_callback s.world b t c)

    end_as : (s : State) (b : Callback) (a : Args) (t c : ℕ) → s.policy ≡ p → delay_ending k (ends s b a t c (acting s b)) ≡ ends (delay_state k s) b a t c (acting (delay_state k s) b)
    end_as s b a t c is =
        called_as (acting s b) (none_acting s b is) b a s.maps (at_callback s.world b t c)
        ∙ ap (ends (delay_state k s) b a t c) (acting_as s b)

    -- what it answers
    pub answered_as : (s : State) (b : Callback) (a : Args) (t c : ℕ) → s.policy ≡ p → answered_by s b a t c ≡ answered_by (delay_state k s) b a t c
    unfolding answered_by
    answered_as s b a t c is = ap (λ (e : Ending WorldState). e.answer) (end_as s b a t c is)

    -- and what it notes
    pub noted_as : (s : State) (b : Callback) (a : Args) (t c : ℕ) → s.policy ≡ p → map (delayed_note k) (noted_by s b a t c) ≡ noted_by (delay_state k s) b a t c
    unfolding noted_by
    noted_as s b a t c is = ap (λ (e : Ending WorldState). e.outside.notes) (end_as s b a t c is)

    calls_as : (q : Option VerifiedProgram) (b : Callback) (a : Args) (maps : Maps) (w : WorldState) → map (delay_call k) (calls_of q b a maps w) ≡ calls_of q b a maps (delay k w)
    calls_as None b a maps w = refl
    calls_as (Some q) b a maps w = refl

    -- what a callback leaves, before its cause is looked at
    abbrev ended : PolicyState → List CallMade → Ending WorldState → Stepped
    ended q cs e = record { state = after_callback q e; notes = e.outside.notes; calls = cs }

    ended_as : (q : PolicyState) (cs ds : List CallMade) (e f : Ending WorldState) → IsUnder (after_callback q e) → map (delay_call k) cs ≡ ds → delay_ending k e ≡ f → Passes (ended q cs e) (ended q ds f)
    ended_as q cs ds e f is x y =
        (ap (λ (us : List CallMade). ended q us (delay_ending k e)) x ∙ ap (λ (u : Ending WorldState). ended q ds u) y, is)

    -- a callback is called, and what follows it
    pub passes_call_back : (b : Callback) (a : Args) (t c : ℕ) → On (λ s. call_back s b a t c)
    unfolding call_back
    passes_call_back b a t c s is =
        let w = at_callback s.world b t c in
        let e = ends s b a t c (acting s b) in
        let f = ends (delay_state k s) b a t c (acting (delay_state k s) b) in
        let cs = calls_of (acting s b) b a s.maps w in
        let ds = calls_of (acting (delay_state k s) b) b a s.maps (at_callback (delay k s.world) b t c) in
        let same = calls_as (acting s b) b a s.maps w ∙ ap (λ (q : Option VerifiedProgram). calls_of q b a s.maps (at_callback (delay k s.world) b t c)) (acting_as s b) in
        let at : delay_ending k e ≡ f = end_as s b a t c is.0 in
        let first = ended_as s.policy cs ds e f (is.0, (same_called (acting s b) b a s.maps w).4 ∙ is.1) same at in
        subst (λ (o : Option Cause). Passes (one_after_other (ended s.policy cs e) (ejected_for (cause_of b e) (after_callback s.policy e))) (one_after_other (ended s.policy ds f) (ejected_for o (after_callback s.policy f))))
        (cause_same b e f (ap (λ (x : Ending WorldState). x.answer) at) (ap (λ (x : Ending WorldState). x.outside.call.cause) at) (ap (λ (x : Ending WorldState). x.outside.cpus) at)) (chain (ended s.policy cs e) (ended s.policy ds f) (ejected_for (cause_of b e)) first (passes_ejected_for (cause_of b e)))
