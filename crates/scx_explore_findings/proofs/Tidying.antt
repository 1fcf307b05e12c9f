-- As long as no weight changes, each event keeps groups and tasks as they are; no task waits since a time to come, each
-- group has a usage, and plain rules claim no processor.
use Rattle.std.proofs.Common.{◌≡◌, ℕ, zero, suc, ◌+◌, ◌≤◌, ◌==◌, ◌&&◌, Bool, true, false, nat_lt, if◌then◌else◌, List, [], ◌∷◌, length, map, set, get_or, Option, Some, None, is_none, refl, sym, ap, ◌∙◌, subst, arith}
use Rattle.std.proofs.lemmas.Bool.{and_parts}
use Rattle.std.proofs.lemmas.List.{length-map}
use Rattle.std.specs.List.{range_with_len}
use Rattle.scx_dsq.specs.declared.entries.Rank.{Rank}
use Rattle.scx_dsq.specs.declared.entries.Rank.TheVariants.{Fifo, Front, Vtime}
use Rattle.scx_dsq.specs.Calls.{after_push}
use Rattle.scx_isa_semantics.specs.declared.callbacks.Callback.{Callback}
use Rattle.scx_isa_semantics.specs.declared.callbacks.Callback.TheVariants as callback
use Rattle.scx_isa_semantics.specs.declared.host_tables.Field.{Field}
use Rattle.scx_isa_semantics.specs.declared.host_tables.Field.TheVariants.{Slice, DsqVtime}
use Rattle.scx_isa_semantics.specs.declared.host_tables.Helper.{Helper}
use Rattle.scx_isa_semantics.specs.Code.{at, instruction_count}
use Rattle.scx_isa_semantics.specs.Effects.{Query, Call, Load, Store}
use Rattle.scx_isa_semantics.specs.Elements.{Maps}
use Rattle.scx_isa_semantics.specs.Endings.{run_of}
use Rattle.scx_isa_semantics.specs.HostTables.{is_allowed}
use Rattle.scx_isa_semantics.specs.Machine as start
use Rattle.scx_vm.specs.Arguments.{argument_of, program_arguments}
use Rattle.scx_vm.specs.declared.arguments.Arg.{Arg}
use Rattle.scx_vm.specs.declared.arguments.Args.{Args}
use Rattle.scx_vm.specs.Host.{answer_to, after_query}
use Rattle.scx_vm.specs.Programs.{VerifiedProgram}
use Rattle.scx_weights.specs.Hierarchy.{Hierarchy}
use Rattle.scx_weights.specs.Limits.{for_each_group}
use Rattle.scx_sched_tasks.specs.declared.task.Task.{Task}
use Rattle.scx_sched_tasks.specs.Tasks.{no_task, default_slice}
use Rattle.scx_sched_world.specs.declared.call.Insert.{Insert}
use Rattle.scx_sched_world.specs.declared.eject.Cause.{Cause}
use Rattle.scx_sched_world.specs.declared.eject.Eject.{Eject}
use Rattle.scx_sched_world.specs.declared.faults.Fault.{Fault}
use Rattle.scx_sched_world.specs.declared.passing.Passing.{Passing}
use Rattle.scx_sched_world.specs.CpuSets.{and_cpu, but_cpu}
use Rattle.scx_sched_world.specs.Ids.{parked_queue, local_on}
use Rattle.scx_sched_world.specs.World.{WorldState, are_linux, is_by_linux, nothing_passes, with_queues, switch_at, with_cycling, task_at, with_task, waits, running, choice, after_claim, at_callback}
use Rattle.scx_sched_world.specs.Tasks.{with_since, with_slice, with_home, on_cpu, after_sleep, after_leave, homed, after_local, given_slice, given_vtime, task_after_insert, after_enter, for_cpu, to_front, brought, started_at, after_run, with_new_slice, after_keep, put_parked, used_ms}
use Rattle.scx_sched_world.specs.Ejecting.{put_builtin, put_out, after_evictions, cut_task, after_cut}
use Rattle.scx_sched_world.specs.Helpers.{is_dispatch, with_insert, after_release, insert_or_fault, moved_to_local, helper_after, stored_in, world_functions}
use Rattle.scx_sched_machine.specs.Callbacks.{call_ending, after_callback, cause_of, acting, call_back, task_and_number}
use Rattle.scx_sched_machine.specs.declared.events.Event.{Event}
use Rattle.scx_sched_machine.specs.Ejecting.{eject, moves_over, ejected_for}
use Rattle.scx_sched_machine.specs.Events.{insert_or_put, inserted_by_choice, chosen_by_default}
use Rattle.scx_sched_policy.specs.Policy.{PolicyState}
use Rattle.scx_sched_machine.specs.Put.{enters, enqueue_choice, enters_builtin, comes_in, put}
use Rattle.scx_sched_machine.specs.Steps.{State, Stepped, is_ejected}
use Rattle.scx_sched_machine.proofs.Choices.{keeps_if}
use Rattle.scx_sched.specs.Sim.{SimState, after_event}
use Rattle.scx_explore_findings.proofs.Helpers.{by_helper}
use Rattle.scx_explore_states.proofs.Queries.{IsAllowed, stores_allowed, asks_allowed, run_keeps}
use Rattle.scx_explore_findings.proofs.EventWalk.{IsWeighing, IsPolicy, IsKeptByAll, eject_policy, call_back_policy, put_policy, settled_policy, walk_one}
use Rattle.scx_explore_findings.specs.WholeForms.{IsSince, AreSince, IsTidy}
use Rattle.scx_explore_findings.proofs.Entering.{KeepsHomes, kept_entered, kept_homed}

-- ---- records of tasks

since_set : (clock : ℕ) (xs : List Task) (t : ℕ) (x : Task) → AreSince clock xs → IsSince clock x.since → AreSince clock (set xs t x)
since_set clock [] t x h i u = h u
since_set clock (y ∷ ys) zero x h i zero = i
since_set clock (y ∷ ys) zero x h i (suc u) = h (suc u)
since_set clock (y ∷ ys) (suc t) x h i zero = h zero
since_set clock (y ∷ ys) (suc t) x h i (suc u) = since_set clock ys t x (λ n. h (suc n)) i u

since_now : (clock : ℕ) → IsSince clock (Some clock)
since_now clock = let is : clock ≤ clock = omega arith in is

since_later : (clock : ℕ) (o : Option ℕ) → IsSince clock o → IsSince (clock + 1) o
since_later clock None h = tt
since_later clock (Some n) h = let l : n ≤ clock = h in let is : n ≤ clock + 1 = omega (arith, l) in is

slice_since : (x : Task) (i : Insert) → (given_slice x i).since ≡ x.since
slice_since x i =
    keeps_if (λ (y : Task). y.since ≡ x.since) (i.slice == 0) (if i.refills && (x.slice == 0) then with_slice x 1 else x) (with_slice x i.slice)
    (keeps_if (λ (y : Task). y.since ≡ x.since) (i.refills && (x.slice == 0)) (with_slice x 1) x refl refl) refl

vtime_since : (x : Task) (r : Rank) → (given_vtime x r).since ≡ x.since
vtime_since x Fifo = refl
vtime_since x Front = refl
vtime_since x (Vtime n) = refl

insert_since : (clock : ℕ) (x : Task) (i : Insert) → IsSince clock x.since → IsSince clock (task_after_insert x i).since
insert_since clock x i h = subst (IsSince clock) (sym (vtime_since (given_slice x i) i.rank ∙ slice_since x i)) h

new_since : (clock : ℕ) (x : Task) → IsSince clock x.since → IsSince clock (with_new_slice x).since
new_since clock x h = keeps_if (λ (y : Task). IsSince clock y.since) (x.slice == 0) (with_slice x default_slice) x h h

stored_since : (clock : ℕ) (x : Task) (f : Field) (n : ℕ) → IsSince clock x.since → IsSince clock (stored_in x f n).since
stored_since clock x Slice n h = h
stored_since clock x DsqVtime n h = h
stored_since clock x f n h = h

length-range : (k n : ℕ) → length (range_with_len k n) ≡ n
length-range k zero = refl
length-range k (suc n) = ap suc (length-range (k + 1) n)

pub for_each : (t : Hierarchy) (f : ℕ → ℕ) → length (for_each_group t f) ≡ length t.groups
for_each t f = length-map (range_with_len 0 (length t.groups)) f ∙ length-range 0 (length t.groups)

bits_apart : (b : Bool) → b ≡ false → b ≡ true → ⊥
bits_apart b x y = absurd (cc)

linux_rules : (w : WorldState) → is_by_linux w ≡ true → are_linux w.rules ≡ true
linux_rules w e = (and_parts (are_linux w.rules) (is_none w.ejected) e).0

-- ---- worlds

module _ (v : Hierarchy) where
  abbrev Tidy : WorldState → Type 0
  Tidy w = IsTidy v w

  pub tidy_task : (w : WorldState) (t : ℕ) (x : Task) → Tidy w → IsSince w.clock x.since → Tidy (with_task w t x)
  tidy_task w t x h i = (since_set w.clock w.tasks t x h.0 i, h.1)

  tidy_homes : KeepsHomes Tidy
  tidy_homes = record { home = λ w t c h. tidy_task w t (with_home (task_at w t) c) h (h.0 t); preempted = λ w t c h. tidy_task w t (with_slice (task_at w t) 0) h (h.0 t) }

  tidy_homed : (w : WorldState) (t c : ℕ) → Tidy w → Tidy (homed w t c)
  tidy_homed = kept_homed Tidy tidy_homes

  tidy_entered : (w : WorldState) (t : ℕ) (i : Insert) → Tidy w → Tidy (after_enter w t i)
  tidy_entered w t i h = kept_entered Tidy tidy_homes w t i h (tidy_task w t (task_after_insert (task_at w t) i) h (insert_since w.clock (task_at w t) i (h.0 t)))

  tidy_local : (w : WorldState) (c t : ℕ) → Tidy w → Tidy (after_local w c t)
  tidy_local w c t h = tidy_homed (with_queues w (after_push w.queues (local_on c) t Fifo)) t c h

  tidy_brought : (o : Option ℕ) (w : WorldState) (c : ℕ) → Tidy w → Tidy (brought o w c)
  tidy_brought None w c h = h
  tidy_brought (Some t) w c h = tidy_local (after_leave w t) c t h

  tidy_started : (w : WorldState) (t c : ℕ) → Tidy w → Tidy (started_at (Some t) w c)
  tidy_started w t c h = tidy_task w t (on_cpu (task_at w t) c) h tt

  tidy_run : (w : WorldState) (c t : ℕ) → Tidy w → Tidy (after_run w c t)
  tidy_run w c t h = tidy_task w t (on_cpu (task_at w t) c) h tt

  tidy_kept : (w : WorldState) (o : Option ℕ) → Tidy w → Tidy (after_keep w o)
  tidy_kept w None h = h
  tidy_kept w (Some t) h = tidy_task w t (with_new_slice (task_at w t)) h (new_since w.clock (task_at w t) (h.0 t))

  tidy_put_parked : (w : WorldState) (t : ℕ) → Tidy w → Tidy (put_parked w t)
  tidy_put_parked w t h = keeps_if Tidy (nat_lt t (length w.tasks)) (with_queues (with_task w t (with_since (task_at w t) None)) (after_push w.queues parked_queue t Fifo)) w (tidy_task w t (with_since (task_at w t) None) h tt) h

  tidy_put_builtin : (w : WorldState) (t : ℕ) → Tidy w → Tidy (put_builtin w t)
  tidy_put_builtin w t h = keeps_if Tidy (nat_lt t (length w.tasks)) _ w (since_set w.clock w.tasks t _ h.0 (h.0 t), h.1) h

  tidy_asleep : (w : WorldState) (t : ℕ) → Tidy w → Tidy (after_sleep w t)
  tidy_asleep w t h = keeps_if Tidy (nat_lt t (length w.tasks)) _ w (since_set w.clock w.tasks t (with_since (task_at w t) None) h.0 tt, h.1) h

  tidy_used : (w : WorldState) (t : ℕ) → Tidy w → Tidy (used_ms w t)
  tidy_used w t h = keeps_if Tidy (nat_lt t (length w.tasks)) _ w (h.0, (h.1.0, for_each w.tree _, h.1.2)) h

  tidy_cycled : (w : WorldState) (o : Option ℕ) → Tidy w → Tidy (with_cycling w o)
  tidy_cycled w None h = keeps_if Tidy (is_by_linux w) (record w { cycling = None; passing = nothing_passes }) (record w { cycling = None }) h h
  tidy_cycled w (Some c) h = go (is_by_linux w) refl
    where
      new : Passing
      new = record w.passing { switching = switch_at w c }

      go : (b : Bool) → is_by_linux w ≡ b → Tidy (if b then record (if b then record w { passing = new } else w) { cycling = Some c; claimed = but_cpu w.claimed c } else record w { cycling = Some c })
      go true e = (h.0, (h.1.0, h.1.1, λ plain. absurd (bits_apart (are_linux w.rules) plain (linux_rules w e))))
      go false e = h

  tidy_claimed : (w : WorldState) (o : Option ℕ) → Tidy w → Tidy (after_claim w o)
  tidy_claimed w None h = h
  tidy_claimed w (Some c) h = go (is_by_linux w) refl
    where
      go : (b : Bool) → is_by_linux w ≡ b → Tidy (if b then record w { claimed = and_cpu w.claimed c; call = record w.call { claims = and_cpu w.call.claims c } } else w)
      go true e = (h.0, (h.1.0, h.1.1, λ plain. absurd (bits_apart (are_linux w.rules) plain (linux_rules w e))))
      go false e = h

  tidy_choice : (w : WorldState) (o : Option ℕ) → Tidy w → Tidy (inserted_by_choice w o)
  tidy_choice w None h = h
  tidy_choice w (Some c) h = h

  tidy_chosen : (w : WorldState) (t : ℕ) → Tidy w → Tidy (chosen_by_default w t)
  tidy_chosen w t h =
      let o = choice w t in
      keeps_if Tidy (is_by_linux w) (inserted_by_choice (after_claim w o) o) w (tidy_choice (after_claim w o) o (tidy_claimed w o h)) h

  -- ---- a callback

  tidy_released : (w : WorldState) (t : Option ℕ) (i : Insert) → Tidy w → Tidy (after_release w t i)
  tidy_released w None i h = h
  tidy_released w (Some t) i h = tidy_entered (after_leave w t) t i h

  tidy_inserted : (w : WorldState) (o : Option Fault) (t : Option ℕ) (i : Insert) → Tidy w → Tidy (insert_or_fault w o t i)
  tidy_inserted w None t i h = keeps_if Tidy (is_dispatch w.call.callback) (after_release w t (for_cpu w.call.cpu i)) (with_insert w i) (tidy_released w t (for_cpu w.call.cpu i) h) h
  tidy_inserted w (Some f) t i h = h

  tidy_moved : (w : WorldState) (o : Option ℕ) → Tidy w → Tidy (moved_to_local w o)
  tidy_moved w None h = h
  tidy_moved w (Some t) h = tidy_local (after_leave w t) w.call.cpu t h

  tidy_helper : (e : Callback) (w : WorldState) (f : Helper) (a : List Arg) → is_allowed f e ≡ true → Tidy w → Tidy (helper_after w f a)
  tidy_helper e w f a free h = by_helper (λ (g : Helper). is_allowed g e ≡ true) Tidy w (record {
    same = h;
    faulty = λ x. h;
    ended = λ n. h;
    created = λ may q. h;
    inserted = λ may t i fifo. tidy_inserted w None t i h;
    by_vtime = λ may t i. tidy_inserted w None t i h;
    late = h;
    moved = λ o. tidy_moved w o h;
    claimed = λ o. tidy_claimed w o h;
    kicked = λ c. h;
    preempted = λ c. h;
    timed = λ n o. h;
    drawn = λ may. h;
  }) f free a

  tidy_query : (e : Callback) (w : WorldState) (q : Query) → IsAllowed e q → Tidy w → Tidy (after_query world_functions w q)
  tidy_query e w (Call f a) free h = tidy_helper e w f (map argument_of a) free h
  tidy_query e w (Load t f) free h = h
  tidy_query e w (Store t f k) free h = tidy_task w t.0 (stored_in (task_at w t.0) f k) h (stored_since w.clock (task_at w t.0) f k (h.0 t.0))

  pub tidy_called : (p : Option VerifiedProgram) (e : Callback) (a : Args) (maps : Maps) (w : WorldState) → Tidy w → Tidy (call_ending p e a maps w).outside
  unfolding call_ending run_of
  tidy_called None e a maps w h = h
  tidy_called (Some p) e a maps w h =
      run_keeps (IsAllowed e) (stores_allowed e) (answer_to world_functions) (after_query world_functions) Tidy (tidy_query e) e p.code (λ slot. asks_allowed e (at p.code slot)) (suc (instruction_count p.code)) 0 (start.start (program_arguments a) maps) w h

  -- ---- an ejection

  tidy_evicted : (j : ℕ) (w : WorldState) → Tidy w → Tidy (after_evictions j w)
  tidy_evicted zero w h = h
  tidy_evicted (suc j) w h =
      let u = after_evictions j w in
      keeps_if Tidy (waits u j) (put_builtin (after_leave u j) j) u (tidy_put_builtin (after_leave u j) j (tidy_evicted j w h)) (tidy_evicted j w h)

  tidy_cut_task : (o : Option ℕ) (w : WorldState) → Tidy w → Tidy (cut_task o w)
  tidy_cut_task None w h = h
  tidy_cut_task (Some t) w h = (since_set w.clock w.tasks t _ h.0 (h.0 t), h.1)

  tidy_cut : (j : ℕ) (w : WorldState) → Tidy w → Tidy (after_cut j w)
  tidy_cut zero w h = h
  tidy_cut (suc j) w h = tidy_cut_task (running (after_cut j w) j) (after_cut j w) (tidy_cut j w h)

  tidy_eject : (s : State) (x : Eject) → Tidy s.world → Tidy (eject s x).state.world
  unfolding eject moves_over
  tidy_eject s x h =
      let w = put_out s.world x in
      let u = after_evictions (length w.tasks) w in
      tidy_cut (length u.cpus) u (tidy_evicted (length w.tasks) w h)

  tidy_ejected_for : (o : Option Cause) (s : State) → Tidy s.world → Tidy (ejected_for o s).state.world
  tidy_ejected_for None s h = h
  tidy_ejected_for (Some x) s h = tidy_eject s _ h

  tidy_call_back : (s : State) (e : Callback) (a : Args) (t c : ℕ) → Tidy s.world → Tidy (call_back s e a t c).state.world
  unfolding call_back
  tidy_call_back s e a t c h =
      let r = call_ending (acting s e) e a s.maps (at_callback s.world e t c) in
      tidy_ejected_for (cause_of e r) (after_callback s.policy r) (tidy_called (acting s e) e a s.maps (at_callback s.world e t c) h)

  -- ---- steps

  abbrev Ends : Stepped → Type 0
  Ends r = Tidy r.state.world

  tidy_comes_in : (s : State) (t c : ℕ) → Tidy s.world → Ends (comes_in s t c)
  unfolding comes_in enters enters_builtin
  tidy_comes_in s t c h =
      let i = enqueue_choice s.policy.callbacks.enqueue c s.world.call.insert in
      keeps_if Ends (is_ejected s) (enters_builtin s t) (enters s t i) (tidy_put_builtin s.world t h) (tidy_entered s.world t i h)

  tidy_puts : (s : State) (t c flags : ℕ) → Tidy s.world → Ends (put s t c flags)
  unfolding put
  tidy_puts s t c flags h =
      let r = call_back s callback.Enqueue (task_and_number t flags) t c in
      tidy_comes_in r.state t c (tidy_call_back s callback.Enqueue (task_and_number t flags) t c h)

  tidy_settled : (o : Option Insert) (s : State) (t c : ℕ) → Tidy s.world → Ends (insert_or_put o s t c)
  unfolding enters
  tidy_settled None s t c h = tidy_puts s t c 1 h
  tidy_settled (Some i) s t c h = tidy_entered s.world t (for_cpu c i) h

  tidy_steps : (p : PolicyState) → IsKeptByAll ⊥ (IsPolicy p) Tidy
  tidy_steps p = record {
    called_back = λ s e a t c barred h. (call_back_policy s e a t c ∙ h.0, tidy_call_back s e a t c h.1);
    ejected = λ s x h. (eject_policy s x ∙ h.0, tidy_eject s x h.1);
    puts = λ s t c flags h. (put_policy s t c flags ∙ h.0, tidy_puts s t c flags h.1);
    settled = λ u s t c force wanted h. (settled_policy u.call.insert s t c ∙ h.0, tidy_settled u.call.insert s t c h.1);
    left = λ w t h. h;
    brings = tidy_brought;
    parked = tidy_put_parked;
    started = tidy_started;
    kept = tidy_kept;
    stopped = λ w c t h. tidy_task w t (with_since (task_at w t) (Some w.clock)) h (since_now w.clock);
    charged = λ w t h. (since_set w.clock w.tasks t _ h.0 (h.0 t), h.1);
    caught_up = λ w t h. h;
    cycled = tidy_cycled;
    passes = λ w o x h. h;
    woken = λ w t h. (since_set w.clock w.tasks t (with_since (task_at w t) (Some w.clock)) h.0 (since_now w.clock), h.1);
    asleep = tidy_asleep;
    ticked = λ w t h. (since_set w.clock w.tasks t _ h.0 (h.0 t), h.1);
    used = tidy_used;
    let_off = λ w t h. (since_set w.clock w.tasks t (with_since (task_at w t) (Some w.clock)) h.0 (since_now w.clock), h.1);
    begun = λ w h. (λ u. since_later w.clock (get_or w.tasks u no_task).since (h.0 u), (h.1.0, for_each w.tree _, h.1.2));
    reweighed = λ may. absurd may;
    fronted = λ w t c h. tidy_entered w t (to_front c) h;
    runs = tidy_run;
    lengthened = λ w t h. (since_set w.clock w.tasks t _ h.0 (h.0 t), h.1);
    cut_off = λ w t h. (since_set w.clock w.tasks t _ h.0 (h.0 t), h.1);
    homed = tidy_homed;
    chosen = tidy_chosen;
    at_hand = λ w t c h. h;
    kicks = λ w c h. h;
    unkicked = λ w c h. h;
    counted = λ w d h. h;
    unstarted = λ w n h. h;
    weighed = λ may. absurd may;
  }

  -- an event that changes no weight keeps all of it
  pub tidy_after : (s : SimState) (e : Event) → (IsWeighing e → ⊥) → Tidy s.state.world → Tidy (after_event s e).state.world
  tidy_after s e none h = (walk_one ⊥ (IsPolicy s.state.policy) Tidy (tidy_steps s.state.policy) s e none (refl, h)).1
