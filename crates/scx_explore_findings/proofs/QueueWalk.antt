-- A property of queues that pushes, pops and removals keep holds after each event.
use Rattle.std.proofs.Common.{◌≡◌, ℕ, zero, suc, Bool, true, false, cond, nat_lt, not, List, length, map, Option, Some, None, is_none, is_some, if◌then◌else◌, refl, ◌∙◌}
use Rattle.std.specs.List.{list_any}
use Rattle.scx_dsq.specs.declared.entries.Rank.{Rank}
use Rattle.scx_dsq.specs.declared.entries.Rank.TheVariants.{Fifo}
use Rattle.scx_dsq.specs.declared.errors.QueueError.{QueueError}
use Rattle.scx_dsq.specs.declared.errors.QueueError.TheVariants.{NoSuchQueue, AlreadyThere, Mixed}
use Rattle.scx_dsq.specs.Queues.{QueueState, exists, entry_of, front_of}
use Rattle.scx_dsq.specs.Calls.{clashes, with_task as with_entry, after_push, without_task, after_remove, without, after_pop}
use Rattle.scx_dsq.specs.Laws.{IsSound}
use Rattle.scx_dsq.proofs.Sound.{sound_with_task, sound_without_task}
use Rattle.scx_isa_semantics.specs.declared.callbacks.Callback.{Callback}
use Rattle.scx_isa_semantics.specs.declared.callbacks.Callback.TheVariants as callback
use Rattle.scx_isa_semantics.specs.declared.host_tables.Helper.{Helper}
use Rattle.scx_isa_semantics.specs.declared.host_tables.Helper.TheVariants.{CreateDsq}
use Rattle.scx_isa_semantics.specs.HostTables.{is_allowed}
use Rattle.scx_isa_semantics.specs.Code.{at, instruction_count}
use Rattle.scx_isa_semantics.specs.Effects.{Query, Call, Load, Store}
use Rattle.scx_isa_semantics.specs.Elements.{Maps}
use Rattle.scx_isa_semantics.specs.Endings.{run_of}
use Rattle.scx_isa_semantics.specs.Machine as start
use Rattle.scx_vm.specs.Programs.{VerifiedProgram}
use Rattle.scx_vm.specs.Arguments.{argument_of, program_arguments}
use Rattle.scx_vm.specs.declared.arguments.Arg.{Arg}
use Rattle.scx_vm.specs.declared.arguments.Args.{Args}
use Rattle.scx_vm.specs.Host.{answer_to, after_query}
use Rattle.scx_weights.specs.Hierarchy.{with_weight, with_own_weight}
use Rattle.scx_weights.specs.Refusals.{weight_fault, own_weight_fault}
use Rattle.scx_sched_world.specs.declared.call.Insert.{Insert}
use Rattle.scx_sched_world.specs.declared.eject.Cause.{Cause}
use Rattle.scx_sched_world.specs.declared.eject.Eject.{Eject}
use Rattle.scx_sched_world.specs.declared.faults.Fault.{Fault}
use Rattle.scx_sched_world.specs.Ids.{builtin_queue, parked_queue, local_on}
use Rattle.scx_sched_world.specs.World.{WorldState, with_queues, with_tree, is_by_linux, waits, running, choice, after_claim, at_callback}
use Rattle.scx_sched_world.specs.Tasks.{after_sleep, after_leave, homed, after_local, rank_by, after_enter, for_cpu, to_front, brought, after_keep, put_parked, used_ms, after_reweigh, after_own_weight}
use Rattle.scx_sched_world.specs.Ejecting.{put_out, put_builtin, after_evictions, cut_task, after_cut}
use Rattle.scx_sched_world.specs.Helpers.{is_dispatch, with_insert, after_release, insert_or_fault, moved_to_local, helper_after, world_functions}
use Rattle.scx_sched_policy.specs.Policy.{PolicyState}
use Rattle.scx_sched_machine.specs.Steps.{State, Stepped, is_ejected}
use Rattle.scx_sched_machine.specs.Ejecting.{moves_over, eject, ejected_for}
use Rattle.scx_sched_machine.specs.Callbacks.{call_ending, after_callback, cause_of, acting, call_back, task_and_number}
use Rattle.scx_sched_machine.specs.Put.{enters, enqueue_choice, enters_builtin, comes_in, put}
use Rattle.scx_sched_machine.specs.Events.{insert_or_put, inserted_by_choice, chosen_by_default}
use Rattle.scx_sched_machine.proofs.Choices.{keeps_if}
use Rattle.scx_explore_findings.specs.Between.{EventsKeepQueuesSound}
use Rattle.scx_explore_findings.proofs.Helpers.{by_helper}
use Rattle.scx_explore_states.proofs.Queries.{IsAllowed, stores_allowed, asks_allowed, run_keeps}
use Rattle.scx_explore_findings.proofs.EventWalk.{cycled_anyhow, IsKeptBySmallSteps, eject_policy, call_back_policy, put_policy, settled_policy, walk_after}
use Rattle.scx_explore_findings.proofs.Entering.{KeepsHomes, kept_entered, kept_homed}

apart : (b : Bool) → b ≡ true → b ≡ false → ⊥
apart b x y = absurd (cc)

-- what is kept by a push that is accepted or refused, and as a task leaves its queue
pub record IsKeptByQueues (Q : QueueState → Type 0) : Type 0 where
  pub pushed : (s : QueueState) (id t : ℕ) (r : Rank) → Q s → Q (after_push s id t r)
  pub gone : (s : QueueState) (t : ℕ) → Q s → Q (without_task s t)

module _ (Q : QueueState → Type 0) (k : IsKeptByQueues Q) where
  removed : (s : QueueState) (t : ℕ) → Q s → Q (after_remove s t)
  removed s t h = keeps_if Q (is_some (entry_of s t)) (without_task s t) s (k.gone s t h) h

  without_one : (s : QueueState) (o : Option ℕ) → Q s → Q (without s o)
  without_one s None h = h
  without_one s (Some t) h = k.gone s t h

  popped : (s : QueueState) (id : ℕ) → Q s → Q (after_pop s id)
  popped s id h = without_one s (front_of s id) h

  -- of the queues of a world
  abbrev Of : WorldState → Type 0
  Of w = Q w.queues

  of_homes : KeepsHomes Of
  of_homes = record { home = λ w t c h. h; preempted = λ w t c h. h }

  of_homed : (w : WorldState) (t c : ℕ) → Of w → Of (homed w t c)
  of_homed = kept_homed Of of_homes

  of_entered : (w : WorldState) (t : ℕ) (i : Insert) → Of w → Of (after_enter w t i)
  of_entered w t i h = kept_entered Of of_homes w t i h (k.pushed w.queues i.queue t (rank_by w i.rank) h)

  of_local : (w : WorldState) (c t : ℕ) → Of w → Of (after_local w c t)
  of_local w c t h = of_homed (with_queues w (after_push w.queues (local_on c) t Fifo)) t c (k.pushed w.queues (local_on c) t Fifo h)

  of_brought : (o : Option ℕ) (w : WorldState) (c : ℕ) → Of w → Of (brought o w c)
  of_brought None w c h = h
  of_brought (Some t) w c h = of_local (after_leave w t) c t (removed w.queues t h)

  of_kept : (w : WorldState) (o : Option ℕ) → Of w → Of (after_keep w o)
  of_kept w None h = h
  of_kept w (Some t) h = h

  of_put_parked : (w : WorldState) (t : ℕ) → Of w → Of (put_parked w t)
  of_put_parked w t h = keeps_if Of (nat_lt t (length w.tasks)) _ w (k.pushed w.queues parked_queue t Fifo h) h

  of_put_builtin : (w : WorldState) (t : ℕ) → Of w → Of (put_builtin w t)
  of_put_builtin w t h = keeps_if Of (nat_lt t (length w.tasks)) _ w (k.pushed w.queues builtin_queue t _ h) h

  of_asleep : (w : WorldState) (t : ℕ) → Of w → Of (after_sleep w t)
  of_asleep w t h = keeps_if Of (nat_lt t (length w.tasks)) _ w h h

  of_used : (w : WorldState) (t : ℕ) → Of w → Of (used_ms w t)
  of_used w t h = keeps_if Of (nat_lt t (length w.tasks)) _ w h h

  of_reweighed : (w : WorldState) (g x : ℕ) → Of w → Of (after_reweigh w g x)
  of_reweighed w g x h = keeps_if Of (is_none (weight_fault w.tree g x)) (with_tree w (with_weight w.tree g x)) w h h

  of_weighed : (w : WorldState) (t x : ℕ) → Of w → Of (after_own_weight w t x)
  of_weighed w t x h = keeps_if Of (is_none (own_weight_fault w.tree t x)) (with_tree w (with_own_weight w.tree t x)) w h h

  pub of_claimed : (w : WorldState) (o : Option ℕ) → Of w → Of (after_claim w o)
  of_claimed w None h = h
  of_claimed w (Some c) h = keeps_if Of (is_by_linux w) _ w h h

  of_choice : (w : WorldState) (o : Option ℕ) → Of w → Of (inserted_by_choice w o)
  of_choice w None h = h
  of_choice w (Some c) h = h

  of_chosen : (w : WorldState) (t : ℕ) → Of w → Of (chosen_by_default w t)
  of_chosen w t h =
      let o = choice w t in
      keeps_if Of (is_by_linux w) (inserted_by_choice (after_claim w o) o) w (of_choice (after_claim w o) o (of_claimed w o h)) h

  -- tasks that go over to the built-in scheduler
  of_evicted : (j : ℕ) (w : WorldState) → Of w → Of (after_evictions j w)
  of_evicted zero w h = h
  of_evicted (suc j) w h =
      let u = after_evictions j w in
      keeps_if Of (waits u j) (put_builtin (after_leave u j) j) u (of_put_builtin (after_leave u j) j (removed u.queues j (of_evicted j w h))) (of_evicted j w h)

  of_cut_task : (o : Option ℕ) (w : WorldState) → Of w → Of (cut_task o w)
  of_cut_task None w h = h
  of_cut_task (Some t) w h = h

  of_cut : (j : ℕ) (w : WorldState) → Of w → Of (after_cut j w)
  of_cut zero w h = h
  of_cut (suc j) w h = of_cut_task (running (after_cut j w) j) (after_cut j w) (of_cut j w h)

  of_released : (w : WorldState) (t : Option ℕ) (i : Insert) → Of w → Of (after_release w t i)
  of_released w None i h = h
  of_released w (Some t) i h = of_entered (after_leave w t) t i (removed w.queues t h)

  pub of_inserted : (w : WorldState) (o : Option Fault) (t : Option ℕ) (i : Insert) → Of w → Of (insert_or_fault w o t i)
  of_inserted w None t i h = keeps_if Of (is_dispatch w.call.callback) (after_release w t (for_cpu w.call.cpu i)) (with_insert w i) (of_released w t (for_cpu w.call.cpu i) h) h
  of_inserted w (Some f) t i h = h

  pub of_moved : (w : WorldState) (o : Option ℕ) → Of w → Of (moved_to_local w o)
  of_moved w None h = h
  of_moved w (Some t) h = of_local (after_leave w t) w.call.cpu t (removed w.queues t h)

  of_helper : (e : Callback) → is_allowed CreateDsq e ≡ false → (w : WorldState) (f : Helper) (a : List Arg) → is_allowed f e ≡ true → Of w → Of (helper_after w f a)
  of_helper e barred w f a free h = by_helper (λ (g : Helper). is_allowed g e ≡ true) Of w (record {
    same = h;
    faulty = λ x. h;
    ended = λ n. h;
    created = λ may q. absurd (apart (is_allowed CreateDsq e) may barred);
    inserted = λ may t i fifo. of_inserted w None t i h;
    by_vtime = λ may t i. of_inserted w None t i h;
    late = h;
    moved = λ o. of_moved w o h;
    claimed = λ o. of_claimed w o h;
    kicked = λ c. h;
    preempted = λ c. h;
    timed = λ n o. h;
    drawn = λ may. h;
  }) f free a

  of_query : (e : Callback) → is_allowed CreateDsq e ≡ false → (w : WorldState) (q : Query) → IsAllowed e q → Of w → Of (after_query world_functions w q)
  of_query e barred w (Call f a) free h = of_helper e barred w f (map argument_of a) free h
  of_query e barred w (Load t f) free h = h
  of_query e barred w (Store t f n) free h = h

  of_called : (p : Option VerifiedProgram) (e : Callback) → is_allowed CreateDsq e ≡ false → (a : Args) (maps : Maps) (w : WorldState) → Of w → Of (call_ending p e a maps w).outside
  unfolding call_ending run_of
  of_called None e barred a maps w h = h
  of_called (Some p) e barred a maps w h =
      run_keeps (IsAllowed e) (stores_allowed e) (answer_to world_functions) (after_query world_functions) Of (of_query e barred) e p.code (λ slot. asks_allowed e (at p.code slot)) (suc (instruction_count p.code)) 0 (start.start (program_arguments a) maps) w h

  -- ---- an ejection

  of_eject : (s : State) (x : Eject) → Of s.world → Of (eject s x).state.world
  unfolding eject moves_over
  of_eject s x h =
      let w = put_out s.world x in
      let u = after_evictions (length w.tasks) w in
      of_cut (length u.cpus) u (of_evicted (length w.tasks) w h)

  of_ejected_for : (o : Option Cause) (s : State) → Of s.world → Of (ejected_for o s).state.world
  of_ejected_for None s h = h
  of_ejected_for (Some x) s h = of_eject s _ h

  of_call_back : (s : State) (e : Callback) (a : Args) (t c : ℕ) → is_allowed CreateDsq e ≡ false → Of s.world → Of (call_back s e a t c).state.world
  unfolding call_back
  of_call_back s e a t c barred h =
      let r = call_ending (acting s e) e a s.maps (at_callback s.world e t c) in
      of_ejected_for (cause_of e r) (after_callback s.policy r) (of_called (acting s e) e barred a s.maps (at_callback s.world e t c) h)

  -- ---- what steps are made of

  abbrev Ends : Stepped → Type 0
  Ends r = Of r.state.world

  of_comes_in : (s : State) (t c : ℕ) → Of s.world → Ends (comes_in s t c)
  unfolding comes_in enters enters_builtin
  of_comes_in s t c h =
      let i = enqueue_choice s.policy.callbacks.enqueue c s.world.call.insert in
      keeps_if Ends (is_ejected s) (enters_builtin s t) (enters s t i) (of_put_builtin s.world t h) (of_entered s.world t i h)

  of_puts : (s : State) (t c flags : ℕ) → Of s.world → Ends (put s t c flags)
  unfolding put
  of_puts s t c flags h =
      let r = call_back s callback.Enqueue (task_and_number t flags) t c in
      of_comes_in r.state t c (of_call_back s callback.Enqueue (task_and_number t flags) t c refl h)

  of_settled : (o : Option Insert) (s : State) (t c : ℕ) → Of s.world → Ends (insert_or_put o s t c)
  unfolding enters
  of_settled None s t c h = of_puts s t c 1 h
  of_settled (Some i) s t c h = of_entered s.world t (for_cpu c i) h

  -- ---- events

  of_steps : (p : PolicyState) → IsKeptBySmallSteps p Of
  of_steps p = record {
    called_back = λ s e a t c barred h. (call_back_policy s e a t c ∙ h.0, of_call_back s e a t c barred h.1);
    ejected = λ s x h. (eject_policy s x ∙ h.0, of_eject s x h.1);
    puts = λ s t c flags h. (put_policy s t c flags ∙ h.0, of_puts s t c flags h.1);
    settled = λ u s t c force wanted h. (settled_policy u.call.insert s t c ∙ h.0, of_settled u.call.insert s t c h.1);
    left = λ w t h. removed w.queues t h;
    brings = of_brought;
    parked = of_put_parked;
    started = λ w t c h. popped w.queues (local_on c) h;
    kept = of_kept;
    stopped = λ w c t h. h;
    charged = λ w t h. h;
    caught_up = λ w t h. h;
    cycled = cycled_anyhow Of (λ w o claimed x h. h);
    passes = λ w o x h. h;
    woken = λ w t h. h;
    asleep = of_asleep;
    ticked = λ w t h. h;
    used = of_used;
    let_off = λ w t h. removed w.queues t h;
    begun = λ w h. h;
    reweighed = λ may. of_reweighed;
    fronted = λ w t c h. of_entered w t (to_front c) h;
    runs = λ w c t h. removed w.queues t h;
    lengthened = λ w t h. h;
    cut_off = λ w t h. h;
    homed = of_homed;
    chosen = of_chosen;
    at_hand = λ w t c h. h;
    kicks = λ w c h. h;
    unkicked = λ w c h. h;
    counted = λ w d h. h;
    unstarted = λ w n h. h;
    weighed = λ may. of_weighed;
  }

-- ---- sound queues

-- why a push is refused
refused_by : Bool → Bool → Bool → Option QueueError
refused_by a b c = if not a then Some NoSuchQueue else (if b then Some AlreadyThere else (if c then Some Mixed else None))

sound_pushed : (s : QueueState) (id t : ℕ) (r : Rank) → IsSound s → IsSound (after_push s id t r)
unfolding refused_by
sound_pushed s id t r h = go (exists s id) (is_some (entry_of s t)) (list_any (clashes id r) s.entries) refl refl
  where
    go : (a b c : Bool) → exists s id ≡ a → list_any (clashes id r) s.entries ≡ c → IsSound (cond (is_none (refused_by a b c)) (with_entry s id t r) s)
    go true false false e f = sound_with_task s id t r e f h
    go true false true e f = h
    go true true c e f = h
    go false b c e f = h

pub sound_queues : IsKeptByQueues IsSound
sound_queues = record { pushed = sound_pushed; gone = sound_without_task }

-- an event keeps queues sound, whether it is accepted or not
pub events_keep_queues_sound : EventsKeepQueuesSound
events_keep_queues_sound s e h = (walk_after s.state.policy (λ w. IsSound w.queues) (of_steps IsSound sound_queues s.state.policy) s e (refl, h)).1
