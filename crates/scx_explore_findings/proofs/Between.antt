-- Between two events no note is left, and while the policy is in force the host tracks idle processors as it did.
use Rattle.std.proofs.Common.{◌≡◌, ℕ, zero, suc, Bool, true, nat_lt, List, [], length, map, Option, Some, None, is_none, refl, ◌∙◌, subst}
use Rattle.scx_dsq.specs.declared.entries.Rank.TheVariants.{Fifo}
use Rattle.scx_dsq.specs.Calls.{after_push}
use Rattle.scx_isa_semantics.specs.declared.callbacks.Callback.{Callback}
use Rattle.scx_isa_semantics.specs.declared.callbacks.Callback.TheVariants as callback
use Rattle.scx_isa_semantics.specs.declared.host_tables.Helper.{Helper}
use Rattle.scx_isa_semantics.specs.HostTables.{is_allowed}
use Rattle.scx_isa_semantics.specs.Code.{at, instruction_count}
use Rattle.scx_isa_semantics.specs.Effects.{Query, Call, Load, Store}
use Rattle.scx_isa_semantics.specs.Elements.{Maps}
use Rattle.scx_isa_semantics.specs.Endings.{run_of}
use Rattle.scx_isa_semantics.specs.Machine as start
use Rattle.scx_vm.specs.Programs.{VerifiedProgram}
use Rattle.scx_vm.specs.Arguments.{argument_of, program_arguments}
use Rattle.scx_vm.specs.declared.arguments.Arg.{Arg}
use Rattle.scx_vm.specs.declared.arguments.Args.{Args}
use Rattle.scx_vm.specs.Host.{answer_to, after_query}
use Rattle.scx_weights.specs.Hierarchy.{with_weight, with_own_weight}
use Rattle.scx_weights.specs.Refusals.{weight_fault, own_weight_fault}
use Rattle.scx_sched_world.specs.declared.call.Insert.{Insert}
use Rattle.scx_sched_world.specs.declared.eject.Cause.{Cause}
use Rattle.scx_sched_world.specs.declared.eject.Eject.{Eject}
use Rattle.scx_sched_world.specs.declared.faults.Fault.{Fault}
use Rattle.scx_sched_world.specs.declared.notes.Note.{Note}
use Rattle.scx_sched_world.specs.Ids.{local_on}
use Rattle.scx_sched_world.specs.World.{WorldState, with_queues, with_tree, is_by_linux, waits, running, choice, after_claim, at_callback}
use Rattle.scx_sched_world.specs.Tasks.{after_sleep, after_leave, homed, after_local, after_enter, for_cpu, to_front, brought, after_keep, put_parked, used_ms, after_reweigh, after_own_weight}
use Rattle.scx_sched_world.specs.Ejecting.{put_out, put_builtin, after_evictions, cut_task, after_cut}
use Rattle.scx_sched_world.specs.Helpers.{is_dispatch, with_insert, after_release, insert_or_fault, moved_to_local, helper_after, world_functions}
use Rattle.scx_sched_policy.specs.Policy.{PolicyState}
use Rattle.scx_sched_machine.specs.Steps.{State, Stepped, is_ejected}
use Rattle.scx_sched_machine.specs.Ejecting.{moves_over, eject, ejected_for}
use Rattle.scx_sched_machine.specs.Callbacks.{call_ending, after_callback, cause_of, acting, call_back, task_and_number}
use Rattle.scx_sched_machine.specs.Put.{enters, enqueue_choice, enters_builtin, comes_in, put}
use Rattle.scx_sched_machine.specs.Events.{insert_or_put, inserted_by_choice, chosen_by_default}
use Rattle.scx_sched_machine.proofs.Choices.{keeps_if}
use Rattle.scx_explore_findings.specs.Between.{IsQuiet, EventsLeaveNoNotes}
use Rattle.scx_explore_findings.proofs.Helpers.{by_helper}
use Rattle.scx_explore_states.proofs.Queries.{IsAllowed, stores_allowed, asks_allowed, run_keeps}
use Rattle.scx_explore_findings.proofs.EventWalk.{cycled_anyhow, IsKeptBySmallSteps, eject_policy, call_back_policy, put_policy, settled_policy, walk_after}
use Rattle.scx_explore_findings.proofs.Entering.{KeepsHomes, kept_entered, kept_homed}

-- ---- what keeps the notes, whether idle processors are tracked, whether the policy is in force, and the random number

module _ (P : List Note → Bool → Option Eject → ℕ → Type 0) where
  -- of a world
  abbrev Of : WorldState → Type 0
  Of w = P w.notes w.tracks_idle w.ejected w.random

  of_homes : KeepsHomes Of
  of_homes = record { home = λ w t c h. h; preempted = λ w t c h. h }

  pub of_homed : (w : WorldState) (t c : ℕ) → Of w → Of (homed w t c)
  of_homed = kept_homed Of of_homes

  pub of_entered : (w : WorldState) (t : ℕ) (i : Insert) → Of w → Of (after_enter w t i)
  of_entered w t i h = kept_entered Of of_homes w t i h h

  pub of_local : (w : WorldState) (c t : ℕ) → Of w → Of (after_local w c t)
  of_local w c t h = of_homed (with_queues w (after_push w.queues (local_on c) t Fifo)) t c h

  pub of_brought : (o : Option ℕ) (w : WorldState) (c : ℕ) → Of w → Of (brought o w c)
  of_brought None w c h = h
  of_brought (Some t) w c h = of_local (after_leave w t) c t h

  pub of_kept : (w : WorldState) (o : Option ℕ) → Of w → Of (after_keep w o)
  of_kept w None h = h
  of_kept w (Some t) h = h

  pub of_put_parked : (w : WorldState) (t : ℕ) → Of w → Of (put_parked w t)
  of_put_parked w t h = keeps_if Of (nat_lt t (length w.tasks)) _ w h h

  pub of_put_builtin : (w : WorldState) (t : ℕ) → Of w → Of (put_builtin w t)
  of_put_builtin w t h = keeps_if Of (nat_lt t (length w.tasks)) _ w h h

  pub of_asleep : (w : WorldState) (t : ℕ) → Of w → Of (after_sleep w t)
  of_asleep w t h = keeps_if Of (nat_lt t (length w.tasks)) _ w h h

  pub of_used : (w : WorldState) (t : ℕ) → Of w → Of (used_ms w t)
  of_used w t h = keeps_if Of (nat_lt t (length w.tasks)) _ w h h

  pub of_reweighed : (w : WorldState) (g x : ℕ) → Of w → Of (after_reweigh w g x)
  of_reweighed w g x h = keeps_if Of (is_none (weight_fault w.tree g x)) (with_tree w (with_weight w.tree g x)) w h h

  pub of_weighed : (w : WorldState) (t x : ℕ) → Of w → Of (after_own_weight w t x)
  of_weighed w t x h = keeps_if Of (is_none (own_weight_fault w.tree t x)) (with_tree w (with_own_weight w.tree t x)) w h h

  pub of_claimed : (w : WorldState) (o : Option ℕ) → Of w → Of (after_claim w o)
  of_claimed w None h = h
  of_claimed w (Some c) h = keeps_if Of (is_by_linux w) _ w h h

  pub of_choice : (w : WorldState) (o : Option ℕ) → Of w → Of (inserted_by_choice w o)
  of_choice w None h = h
  of_choice w (Some c) h = h

  pub of_chosen : (w : WorldState) (t : ℕ) → Of w → Of (chosen_by_default w t)
  of_chosen w t h =
      let o = choice w t in
      keeps_if Of (is_by_linux w) (inserted_by_choice (after_claim w o) o) w (of_choice (after_claim w o) o (of_claimed w o h)) h

  -- tasks that go over to the built-in scheduler
  pub of_evicted : (j : ℕ) (w : WorldState) → Of w → Of (after_evictions j w)
  of_evicted zero w h = h
  of_evicted (suc j) w h =
      let u = after_evictions j w in
      keeps_if Of (waits u j) (put_builtin (after_leave u j) j) u (of_put_builtin (after_leave u j) j (of_evicted j w h)) (of_evicted j w h)

  pub of_cut_task : (o : Option ℕ) (w : WorldState) → Of w → Of (cut_task o w)
  of_cut_task None w h = h
  of_cut_task (Some t) w h = h

  pub of_cut : (j : ℕ) (w : WorldState) → Of w → Of (after_cut j w)
  of_cut zero w h = h
  of_cut (suc j) w h = of_cut_task (running (after_cut j w) j) (after_cut j w) (of_cut j w h)

-- ---- a callback

-- an ejection is one
abbrev IsEjected : Option Eject → Type 0
IsEjected None = ⊥
IsEjected (Some x) = Unit {0}

some_isnt_none : (x : Eject) → Some x ≡ None → ⊥
some_isnt_none x e = subst IsEjected e tt

-- idle processors are tracked so while the policy is in force
abbrev Tracks : Bool → List Note → Bool → Option Eject → ℕ → Type 0
Tracks b ns x o r = o ≡ None → x ≡ b

-- and no note is left
abbrev Quiet : Bool → List Note → Bool → Option Eject → ℕ → Type 0
Quiet b ns x o r = (ns ≡ []) × (o ≡ None → x ≡ b)

module _ (b : Bool) where
  abbrev Tracked : WorldState → Type 0
  Tracked w = Tracks b w.notes w.tracks_idle w.ejected w.random

  tracked_released : (w : WorldState) (t : Option ℕ) (i : Insert) → Tracked w → Tracked (after_release w t i)
  tracked_released w None i h = h
  tracked_released w (Some t) i h = of_entered (Tracks b) (after_leave w t) t i h

  tracked_inserted : (w : WorldState) (o : Option Fault) (t : Option ℕ) (i : Insert) → Tracked w → Tracked (insert_or_fault w o t i)
  tracked_inserted w None t i h = keeps_if Tracked (is_dispatch w.call.callback) (after_release w t (for_cpu w.call.cpu i)) (with_insert w i) (tracked_released w t (for_cpu w.call.cpu i) h) h
  tracked_inserted w (Some f) t i h = h

  tracked_moved : (w : WorldState) (o : Option ℕ) → Tracked w → Tracked (moved_to_local w o)
  tracked_moved w None h = h
  tracked_moved w (Some t) h = of_local (Tracks b) (after_leave w t) w.call.cpu t h

  tracked_helper : (e : Callback) (w : WorldState) (f : Helper) (a : List Arg) → is_allowed f e ≡ true → Tracked w → Tracked (helper_after w f a)
  tracked_helper e w f a free h = by_helper (λ (g : Helper). is_allowed g e ≡ true) Tracked w (record {
    same = h;
    faulty = λ x. h;
    ended = λ n. h;
    created = λ may q. h;
    inserted = λ may t i fifo. tracked_inserted w None t i h;
    by_vtime = λ may t i. tracked_inserted w None t i h;
    late = h;
    moved = λ o. tracked_moved w o h;
    claimed = λ o. of_claimed (Tracks b) w o h;
    kicked = λ c. h;
    preempted = λ c. h;
    timed = λ n o. h;
    drawn = λ may. h;
  }) f free a

  tracked_query : (e : Callback) (w : WorldState) (q : Query) → IsAllowed e q → Tracked w → Tracked (after_query world_functions w q)
  tracked_query e w (Call f a) free h = tracked_helper e w f (map argument_of a) free h
  tracked_query e w (Load t f) free h = h
  tracked_query e w (Store t f k) free h = h

  tracked_called : (p : Option VerifiedProgram) (e : Callback) (a : Args) (maps : Maps) (w : WorldState) → Tracked w → Tracked (call_ending p e a maps w).outside
  unfolding call_ending run_of
  tracked_called None e a maps w h = h
  tracked_called (Some p) e a maps w h =
      run_keeps (IsAllowed e) (stores_allowed e) (answer_to world_functions) (after_query world_functions) Tracked (tracked_query e) e p.code (λ slot. asks_allowed e (at p.code slot)) (suc (instruction_count p.code)) 0 (start.start (program_arguments a) maps) w h

  -- ---- an ejection

  quiet_eject : (s : State) (x : Eject) → s.world.notes ≡ [] → IsQuiet b (eject s x).state.world
  unfolding eject moves_over
  quiet_eject s x h =
      let w = put_out s.world x in
      let u = after_evictions (length w.tasks) w in
      of_cut (Quiet b) (length u.cpus) u (of_evicted (Quiet b) (length w.tasks) w (h, λ e. absurd (some_isnt_none x e)))

  quiet_ejected_for : (o : Option Cause) (s : State) → IsQuiet b s.world → IsQuiet b (ejected_for o s).state.world
  quiet_ejected_for None s h = h
  quiet_ejected_for (Some x) s h = quiet_eject s _ h.0

  quiet_call_back : (s : State) (e : Callback) (a : Args) (t c : ℕ) → IsQuiet b s.world → IsQuiet b (call_back s e a t c).state.world
  unfolding call_back
  quiet_call_back s e a t c h =
      let r = call_ending (acting s e) e a s.maps (at_callback s.world e t c) in
      quiet_ejected_for (cause_of e r) (after_callback s.policy r) (refl, tracked_called (acting s e) e a s.maps (at_callback s.world e t c) h.1)

  -- ---- what steps are made of

  abbrev Ends : Stepped → Type 0
  Ends r = IsQuiet b r.state.world

  quiet_comes_in : (s : State) (t c : ℕ) → IsQuiet b s.world → Ends (comes_in s t c)
  unfolding comes_in enters enters_builtin
  quiet_comes_in s t c h =
      let i = enqueue_choice s.policy.callbacks.enqueue c s.world.call.insert in
      keeps_if Ends (is_ejected s) (enters_builtin s t) (enters s t i) (of_put_builtin (Quiet b) s.world t h) (of_entered (Quiet b) s.world t i h)

  quiet_puts : (s : State) (t c flags : ℕ) → IsQuiet b s.world → Ends (put s t c flags)
  unfolding put
  quiet_puts s t c flags h =
      let r = call_back s callback.Enqueue (task_and_number t flags) t c in
      quiet_comes_in r.state t c (quiet_call_back s callback.Enqueue (task_and_number t flags) t c h)

  quiet_settled : (o : Option Insert) (s : State) (t c : ℕ) → IsQuiet b s.world → Ends (insert_or_put o s t c)
  unfolding enters
  quiet_settled None s t c h = quiet_puts s t c 1 h
  quiet_settled (Some i) s t c h = of_entered (Quiet b) s.world t (for_cpu c i) h

  -- ---- events

  quiet_steps : (p : PolicyState) → IsKeptBySmallSteps p (IsQuiet b)
  quiet_steps p = record {
    called_back = λ s e a t c barred h. (call_back_policy s e a t c ∙ h.0, quiet_call_back s e a t c h.1);
    ejected = λ s x h. (eject_policy s x ∙ h.0, quiet_eject s x h.1.0);
    puts = λ s t c flags h. (put_policy s t c flags ∙ h.0, quiet_puts s t c flags h.1);
    settled = λ u s t c force wanted h. (settled_policy u.call.insert s t c ∙ h.0, quiet_settled u.call.insert s t c h.1);
    left = λ w t h. h;
    brings = of_brought (Quiet b);
    parked = of_put_parked (Quiet b);
    started = λ w t c h. h;
    kept = of_kept (Quiet b);
    stopped = λ w c t h. h;
    charged = λ w t h. h;
    caught_up = λ w t h. h;
    cycled = cycled_anyhow (IsQuiet b) (λ w o claimed x h. h);
    passes = λ w o x h. h;
    woken = λ w t h. h;
    asleep = of_asleep (Quiet b);
    ticked = λ w t h. h;
    used = of_used (Quiet b);
    let_off = λ w t h. h;
    begun = λ w h. h;
    reweighed = λ may. of_reweighed (Quiet b);
    fronted = λ w t c h. of_entered (Quiet b) w t (to_front c) h;
    runs = λ w c t h. h;
    lengthened = λ w t h. h;
    cut_off = λ w t h. h;
    homed = of_homed (Quiet b);
    chosen = of_chosen (Quiet b);
    at_hand = λ w t c h. (refl, h.1);
    kicks = λ w c h. h;
    unkicked = λ w c h. h;
    counted = λ w d h. h;
    unstarted = λ w n h. h;
    weighed = λ may. of_weighed (Quiet b);
  }

-- an event leaves no note, whether it is accepted or not
pub events_leave_no_notes : EventsLeaveNoNotes
events_leave_no_notes b s e h = (walk_after s.state.policy (IsQuiet b) (quiet_steps b s.state.policy) s e (refl, h)).1
