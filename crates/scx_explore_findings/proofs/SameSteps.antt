-- Callbacks and ejections lead from two states that are the same but for unread parts to two such states,
-- with the same notes.
use Rattle.std.proofs.Common.{◌≡◌, ℕ, Bool, true, List, [], ◌∷◌, ◌++◌, length, Option, Some, None, refl, ap, ◌∙◌, subst}
use Rattle.scx_isa_semantics.specs.declared.callbacks.Callback.{Callback}
use Rattle.scx_isa_semantics.specs.Elements.{Maps}
use Rattle.scx_isa_semantics.specs.Endings.{Ending}
use Rattle.scx_vm.specs.Programs.{VerifiedProgram}
use Rattle.scx_vm.specs.Arguments.{program_arguments}
use Rattle.scx_vm.specs.declared.arguments.Args.{Args}
use Rattle.scx_sched_world.specs.declared.call.Call.{Call}
use Rattle.scx_sched_world.specs.declared.eject.Cause.{Cause}
use Rattle.scx_sched_world.specs.declared.eject.Eject.{Eject}
use Rattle.scx_sched_world.specs.declared.notes.Note.{Note}
use Rattle.scx_sched_world.specs.World.{WorldState, nothing_passes, at_callback, quiet, note_now}
use Rattle.scx_sched_world.specs.Ejecting.{eject_of, without_insert, put_out, after_evictions, evict_notes, after_cut, eject_note}
use Rattle.scx_sched_policy.specs.Policy.{PolicyState}
use Rattle.scx_sched_machine.specs.Steps.{State, CallMade, Stepped, with_world, after, one_after_other}
use Rattle.scx_sched_machine.specs.Ejecting.{moves_over, eject, ejected_for}
use Rattle.scx_sched_machine.specs.Callbacks.{call_ending, after_callback, calls_of, cause_of, acting, call_back, answered_by, noted_by}
use Rattle.scx_explore_findings.specs.UnreadParts.{Parts, AreAsWorlds, AreAsStates, Fits, parts_of, with_parts}
use Rattle.scx_explore_findings.proofs.SameWorlds.{Skips, plain, recalled, called, across, both, read_across, skips_move_over, move_notes_same, skips_cut}
use Rattle.scx_explore_findings.proofs.SameRuns.{EndsAlike, program_same}
use Rattle.scx_sched_world.specs.declared.notes.What.{What}
use Rattle.scx_explore_findings.proofs.PairedSteps.{cause_same}

-- the state with other such parts
abbrev pub re : State → Parts → State
re s z = with_world s (with_parts s.world z)

-- two steps come to the same but for such parts, and note the same; the callback at hand is the same where that is said
abbrev pub Passes : Bool → Stepped → Stepped → Type 0
Passes b r q = AreAsStates b r.state q.state × (r.notes ≡ q.notes)

-- a step leads from two such states to two such states; the callback at hand is the same before it if the first says so,
-- and after it if the second does
abbrev From : Bool → Bool → (State → Stepped) → Type 0
From b c f = (s : State) (z : Parts) → Fits b s.world z → Passes c (f s) (f (re s z))

-- a step that keeps the callback at hand the same
abbrev On : Bool → (State → Stepped) → Type 0
On b f = From b b f

-- ---- how steps are made of others

-- one after another
pub joins : (b c : Bool) (r q r' q' : Stepped) → Passes b r q → (AreAsStates b r.state q.state → Passes c r' q') → Passes c (one_after_other r r') (one_after_other q q')
joins b c r q r' q' e next =
    let x = next e.0 in
    (x.0, ap (λ (ns : List Note). ns ++ r'.notes) e.1 ∙ ap (λ (ns : List Note). q.notes ++ ns) x.1)

chain : (r q : Stepped) (f : State → Stepped) → Passes true r q → On true f → Passes true (one_after_other r (f r.state)) (one_after_other q (f q.state))
chain r q f e on = joins true true r q (f r.state) (f q.state) e (λ h. subst (λ (u : State). Passes true (f r.state) (f u)) h.rest (on r.state (parts_of q.state.world) h.parts))

-- with a note in front
pub noted : (b : Bool) (s t : State) → AreAsStates b s t → (x : What) (r q : Stepped) → Passes b r q → Passes b (after (note_now s.world x ∷ []) r) (after (note_now t.world x ∷ []) q)
noted b s t e x r q h = (h.0, ap (λ (ns : List Note). note_now s.world x ∷ ns) h.1 ∙ ap (λ (y : State). note_now y.world x ∷ q.notes) e.rest)

module _ {b : Bool} where
  -- two states are the same where their worlds are
  pub in_state : (s : State) (v w : WorldState) → AreAsWorlds b v w → AreAsStates b (with_world s v) (with_world s w)
  in_state s v w e = record { parts = e.parts; rest = ap (λ u. with_world s u) e.rest }

  -- from two states with the same callback at hand: either claim about it holds
  pub eased : (s t : State) → AreAsStates true s t → AreAsStates b s t
  eased s t x =
      let m = x.parts in record {
        parts = record { queues = m.queues; call = λ e. m.call refl; kicked = m.kicked; preempted = m.preempted; usages = m.usages };
        rest = x.rest;
      }

  -- a change of the world
  pub changes : (f : WorldState → WorldState) → Skips b f → (s t : State) → AreAsStates b s t → AreAsStates b (with_world s (f s.world)) (with_world t (f t.world))
  changes f k s t e =
      subst (λ (u : State). AreAsStates b (with_world s (f s.world)) (with_world u (f u.world))) e.rest (in_state s (f s.world) (f (with_parts s.world (parts_of t.world))) (k s.world (parts_of t.world) e.parts))

  -- what is read alike of two such states
  pub alike : {A : Type 0} (f : State → A) → ((s : State) (z : Parts) → Fits b s.world z → f s ≡ f (re s z)) → (s t : State) → AreAsStates b s t → f s ≡ f t
  alike f k s t e = k s (parts_of t.world) e.parts ∙ ap f e.rest

-- ---- an ejection

-- the world after an ejection
abbrev put_over : Eject → WorldState → WorldState
put_over x w = let u = after_evictions (length w.tasks) (put_out w x) in after_cut (length u.cpus) u

module _ {same : Bool} where
  skips_put_out : (x : Eject) → Skips same (λ w. put_out w x)
  skips_put_out x w z m = recalled without_insert (record w { ejected = Some x; passing = nothing_passes; tracks_idle = true }) z m

  skips_put_over : (x : Eject) → Skips same (put_over x)
  skips_put_over x w z m =
      across (λ v. let u = after_evictions (length v.tasks) v in after_cut (length u.cpus) u) (both (λ v. after_evictions (length v.tasks) v) (λ u. after_cut (length u.cpus) u) skips_move_over skips_cut) (put_out w x) (put_out (with_parts w z) x) (skips_put_out x w z m)

  -- the policy is ejected
  pub passes_eject : (x : Eject) → On same (λ s. eject s x)
  unfolding eject moves_over
  passes_eject x s z m =
      let w = s.world in
      let v = with_parts w z in
      (in_state s (put_over x w) (put_over x v) (skips_put_over x w z m), ap (λ (ns : List Note). note_now w (eject_note x) ∷ ns) (read_across (λ u. evict_notes (length u.tasks) u) move_notes_same (put_out w x) (put_out (with_parts w z) x) (skips_put_out x w z m)))

  -- it is ejected if there was a cause
  pub passes_ejected_for : (o : Option Cause) → On same (ejected_for o)
  passes_ejected_for None s z m = (record { parts = m; rest = refl }, refl)
  passes_ejected_for (Some x) s z m = passes_eject (eject_of x s.world.clock) s z m

-- ---- callbacks

-- the end of a callback
called_same : (q : Option VerifiedProgram) (b : Callback) (a : Args) (maps : Maps) (v w : WorldState) → AreAsWorlds true v w → EndsAlike (call_ending q b a maps v) (call_ending q b a maps w)
unfolding call_ending
called_same None b a maps v w e = record { answer = refl; maps = refl; outside = e }
called_same (Some q) b a maps v w e = program_same b q.code (program_arguments a) maps v w e

module _ {same : Bool} where
  end_same : (s : State) (b : Callback) (a : Args) (t c : ℕ) (z : Parts) → Fits same s.world z → EndsAlike (call_ending (acting s b) b a s.maps (at_callback s.world b t c)) (call_ending (acting s b) b a s.maps (at_callback (with_parts s.world z) b t c))
  end_same s b a t c z m = called_same (acting s b) b a s.maps (at_callback s.world b t c) (at_callback (with_parts s.world z) b t c) (called b t c s.world z m)

  -- the answer of a callback
  pub answered_same : (s : State) (b : Callback) (a : Args) (t c : ℕ) (z : Parts) → Fits same s.world z → answered_by s b a t c ≡ answered_by (re s z) b a t c
  unfolding answered_by
  answered_same s b a t c z m = (end_same s b a t c z m).answer

notes_read : (e f : Ending WorldState) → EndsAlike e f → e.outside.notes ≡ f.outside.notes
notes_read e f x = read_across (λ w. w.notes) (λ w z m. refl) e.outside f.outside x.outside

module _ {same : Bool} where
  -- the notes of a callback
  pub noted_same : (s : State) (b : Callback) (a : Args) (t c : ℕ) (z : Parts) → Fits same s.world z → noted_by s b a t c ≡ noted_by (re s z) b a t c
  unfolding noted_by
  noted_same s b a t c z m = notes_read (call_ending (acting s b) b a s.maps (at_callback s.world b t c)) (call_ending (acting s b) b a s.maps (at_callback (with_parts s.world z) b t c)) (end_same s b a t c z m)

abbrev left_by : PolicyState → Maps → WorldState → State
left_by p maps w = record { policy = p; maps = maps; world = w }

-- the state after a callback, before the policy is ejected
abbrev ended : PolicyState → List CallMade → Ending WorldState → Stepped
ended p cs e = record { state = after_callback p e; notes = e.outside.notes; calls = cs }

ended_same : (p : PolicyState) (cs ds : List CallMade) (e f : Ending WorldState) → EndsAlike e f → Passes true (ended p cs e) (ended p ds f)
ended_same p cs ds e f x =
    let still = across quiet (λ w z m. plain (quiet w) z m) e.outside f.outside x.outside in (
      record {
        parts = still.parts;
        rest = ap (λ u. left_by p e.maps u) still.rest ∙ ap (λ ms. left_by p ms (quiet f.outside)) x.maps;
      },
      notes_read e f x,
    )

module _ {same : Bool} where
  -- a callback is called, and the policy is ejected if there is a cause
  pub passes_call_back : (b : Callback) (a : Args) (t c : ℕ) → From same true (λ s. call_back s b a t c)
  unfolding call_back
  passes_call_back b a t c s z m =
      let v = at_callback s.world b t c in
      let w = at_callback (with_parts s.world z) b t c in
      let e = call_ending (acting s b) b a s.maps v in
      let f = call_ending (acting s b) b a s.maps w in
      let cs = calls_of (acting s b) b a s.maps v in
      let ds = calls_of (acting s b) b a s.maps w in
      let x = end_same s b a t c z m in
      let first = ended_same s.policy cs ds e f x in
      subst (λ (o : Option Cause). Passes true (one_after_other (ended s.policy cs e) (ejected_for (cause_of b e) (after_callback s.policy e))) (one_after_other (ended s.policy ds f) (ejected_for o (after_callback s.policy f))))
      (cause_same b e f x.answer (read_across (λ u. u.call.cause) (λ u y l. ap (λ (j : Call). j.cause) (l.call refl)) e.outside f.outside x.outside) (read_across (λ u. u.cpus) (λ u y l. refl) e.outside f.outside x.outside)) (chain (ended s.policy cs e) (ended s.policy ds f) (ejected_for (cause_of b e)) first (passes_ejected_for (cause_of b e)))
