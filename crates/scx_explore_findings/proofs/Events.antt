-- Each event leads from two states that are the same but for what is left out to two such states, if no task runs whose slice
-- is left out.
use Rattle.std.proofs.Common.{◌≡◌, ◌==◌, Bool, true, false, cond, nat_lt, ◌∷◌, length, Option, Some, None, refl, sym, ap, ◌∙◌, subst, inr, option_map, ◌||◌, ℕ, []}
use Rattle.scx_dsq.specs.Queues.{len_of, front_of, behind_of, entry_of, is_in, queue_of}
use Rattle.scx_isa_semantics.specs.declared.callbacks.Callback.{Callback}
use Rattle.scx_isa_semantics.specs.declared.callbacks.Callback.TheVariants as callback
use Rattle.scx_isa_semantics.specs.Arguments.{IsTask, FitsCallback}
use Rattle.scx_isa_semantics.specs.Machine.{Arguments}
use Rattle.scx_vm.specs.Programs.{VerifiedProgram}
use Rattle.scx_sched_world.specs.declared.call.Insert.{Insert}
use Rattle.scx_sched_world.specs.declared.eject.Eject.TheVariants as cause
use Rattle.scx_sched_world.specs.declared.timers.Alarm.{Alarm}
use Rattle.scx_sched_world.specs.Ids.{held_queue, local_on}
use Rattle.scx_sched_world.specs.World.{WorldState, with_switch, with_kick, with_slept, with_waker, with_timer_at_hand, task_at, is_runnable, first_home, is_throttled, running, is_idle, choice, after_claim, at_callback, note_now, has_one_cpu, out_of_cycle, with_cycling, with_queues, without_kick, default_choice, may_run}
use Rattle.scx_sched_world.specs.Tasks.{for_cpu, to_local, homed, after_wake, after_sleep, after_leave, after_stop, let_go, after_tick, used_ms, later, begun_periods, after_reweigh, after_own_weight, after_cut_off, after_enter, after_fill, after_keep, after_run, after_switch, brought, fill_front, local_len, next_for, put_parked, started_at}
use Rattle.scx_sched_world.specs.Helpers.{with_insert, alarm_at, due_now, after_fire}
use Rattle.scx_weights.specs.Refusals.{max_weight, is_outside}
use Rattle.scx_sched_machine.specs.declared.events.Refused.TheVariants.{AlreadyRunnable, NotRunnable, UnknownTask, BadWeight}
use Rattle.scx_sched_machine.specs.declared.events.Event.{Event}
use Rattle.scx_sched_machine.specs.declared.events.Event.TheVariants.{Wake, Sleep, Tick, Clock, SetWeight, SetTaskWeight}
use Rattle.scx_sched_policy.specs.Policy.{PolicyState}
use Rattle.scx_sched_machine.specs.Steps.{State, Stepped, with_world, is_ejected, is_by_linux, stays, one_after_other, after}
use Rattle.scx_sched_machine.specs.Callbacks.{call_back, answered_by, one_task, task_and_number, noted_by}
use Rattle.scx_sched_machine.specs.Custody.{tells_left}
use Rattle.scx_sched_machine.specs.Firing.{fire_all}
use Rattle.scx_sched_machine.specs.Put.{enqueue_choice}
use Rattle.scx_sched_machine.specs.Cycle.{is_local}
use Rattle.scx_sched_machine.specs.Events.{inserted_by_choice, chosen_by_default, overdue, watch, timers_and_watchdog, clock, own_step, refusal, is_tick_time}
use Rattle.scx_sched_machine.proofs.Choices.{keeps_if}
use Rattle.scx_sched_world.specs.World as world
use Rattle.scx_sched_machine.specs.Rounds.{round}
use Rattle.scx_explore_states.specs.Asking.{is_early}
use Rattle.scx_explore_findings.specs.HiddenStates.{once_let_go, once_later, late_in}
use Rattle.scx_explore_findings.specs.IdleSlices.{runs_on, is_idle_of}
use Rattle.scx_explore_findings.proofs.IdleRecords.{bits}
use Rattle.scx_explore_findings.proofs.Omitting.{Omitted, omit, omit_state, IfAny, if_any, early_out, given_out, IsOutAt, omit_step}
use Rattle.scx_explore_findings.proofs.IdleTasks.{out_busy, may_enter, on_that, MayEnter, queued_busy, Given, Held, Out}
use Rattle.scx_explore_findings.proofs.Worlds.{Same, Hides, plain, both, by_linux, read, read_busy, throttled_same, chosen_same, choice_same, hides_homed, hides_stop, hides_begin_switch, hides_claim, overdue_same, hides_leave, hides_wake, hides_sleep, hides_let_go, hides_tick, hides_used, hides_reweigh, hides_own_weight, known, hides_brought, hides_catch_up, hides_charge, hides_cut_off, hides_cycling, hides_enter, hides_keep, hides_parked, hides_parked_from, hides_put_builtin, hides_run, hides_started, hides_switch}
use Rattle.scx_explore_findings.proofs.Helpers.{Wants, wants_homed, wants_claimed}
use Rattle.scx_explore_findings.proofs.Steps.{joins, noted_same, Tells, tells_first, tells_two, Passes, On, from, passes_eject, answered_same, passes_call_back, call_back_wants, known_here, known_there, tells_second}
use Rattle.scx_explore_findings.proofs.Begun.{here, follows, same_here}
use Rattle.scx_explore_findings.proofs.Paired.{AnswersAlike, Changes, IsGiven, IsPaired, IsPairedWhole, ReadAlike, Relation, begun, same_cpus, Alone, Counted, Early}
use Rattle.scx_vm.specs.declared.arguments.Args.{Args}
use Rattle.scx_explore_findings.proofs.PairedEvents.{BeginAlike, late_by, pair_once_fired, pair_own}
use Rattle.scx_dsq.specs.declared.entries.Entry.{Entry}
use Rattle.scx_dsq.specs.declared.entries.Rank.TheVariants.{Fifo}
use Rattle.scx_sched.proofs.Supplying.{IsThrottledIn}
use Rattle.scx_explore_findings.proofs.PairedCycles.{Told, pair_round}
use Rattle.scx_sched_world.specs.Ejecting.{after_catch_up, after_charge, put_builtin}
use Rattle.scx_dsq.specs.Calls.{after_push, after_remove}
use Rattle.scx_sched_machine.specs.Ejecting.{eject}
use Rattle.std.proofs.lemmas.Bool.{eqb-true}
use Rattle.scx_sched_world.proofs.Fronts.{front_in}
use Rattle.scx_explore_findings.proofs.PairedSteps.{local_other, pair_begun}
use Rattle.scx_sched.proofs.Seen.{next_seen}

-- ---- what callbacks are given

-- a callback that is given a task that runs has it as its first argument
pub late_given : (b : Callback) → is_early b true ≡ false → (a : Arguments) → FitsCallback b a → IsTask a.first
late_given callback.Running late a fits = fits
late_given callback.Stopping late a fits = fits.0
late_given callback.Tick late a fits = fits
late_given b late a fits = absurd (bits true refl late)

-- ---- events

-- an event of one of two such states is refused for the same cause in the other one
pub refusal_same : (h : Omitted) (s : State) (e : Event) → refusal s e ≡ refusal (omit_state h s) e
refusal_same h s (Wake t) = ap (λ (b : Bool). cond b (cond (is_runnable s.world t) (Some AlreadyRunnable) None) (Some UnknownTask)) (known h s.world t)
refusal_same h s (Sleep t) = ap (λ (b : Bool). cond b (cond (is_runnable s.world t) None (Some NotRunnable)) (Some UnknownTask)) (known h s.world t)
refusal_same h s (Tick c) = refl
refusal_same h s Clock = refl
refusal_same h s (SetWeight g x) = refl
refusal_same h s (SetTaskWeight t x) = ap (λ (b : Bool). cond b (cond (is_outside max_weight x) (Some BadWeight) None) (Some UnknownTask)) (known h s.world t)

-- what a choice of a processor wants to insert has a slice
chosen_wants : (w : WorldState) (t : ℕ) → Wants w.call.insert → Wants (chosen_by_default w t).call.insert
chosen_wants w t h =
    keeps_if (λ (v : WorldState). Wants v.call.insert) (world.is_by_linux w) (inserted_by_choice (after_claim w (choice w t)) (choice w t)) w (go (choice w t) (after_claim w (choice w t)) (wants_claimed w (choice w t) h)) h
  where
    go : (o : Option ℕ) (v : WorldState) → Wants v.call.insert → Wants (inserted_by_choice v o).call.insert
    go None v k = k
    go (Some c) v k = refl

-- a local queue that is filled keeps what is wanted
filled_wants : (o : Option ℕ) (c : ℕ) (w : WorldState) → Wants w.call.insert → Wants (brought o w c).call.insert
filled_wants None c w h = h
filled_wants (Some t) c w h = wants_homed (with_queues w (after_push (after_remove w.queues t) (local_on c) t Fifo)) t c h

alone : (b : Bool) → (b || false) ≡ b
alone true = refl
alone false = refl

in_queue : (q : ℕ) (o : Option Entry) → is_in q o ≡ true → option_map (λ (e : Entry). e.queue) o ≡ Some q
in_queue q None e = absurd (cc)
in_queue q (Some x) e = ap Some (eqb-true x.queue q e)

-- ---- two machines

module _ (h : Omitted) (p : PolicyState) where
  -- what a callback wants has a slice, if slices are left out
  abbrev WantsGiven : State → Type 0
  WantsGiven s = IfAny h.idle (Wants s.world.call.insert)

  -- two states are the same but for what is left out, under that policy; and what is wanted is given a slice, if that is said
  pub record AreAsOmitted (b : Bool) (s t : State) : Type 0 where
    pub same : omit_state h s ≡ omit_state h t
    pub policy : s.policy ≡ p
    pub given : b ≡ true → WantsGiven s

  -- two steps come to such states, with the same notes and calls but for what is left out
  abbrev Comes : Bool → Stepped → Stepped → Type 0
  Comes b r q = Tells h p r q → (omit_step h r ≡ omit_step h q) × ((r.state.policy ≡ p) × (b ≡ true → WantsGiven r.state))

  -- two machines that are the same but for what is left out
  abbrev pub Left : Relation
  Left = record { states = AreAsOmitted; steps = Comes; told = λ u. h.idle u ≡ false; may = λ u i. MayEnter h.idle u i }

  never : {A : Type 0} → false ≡ true → A
  never e = absurd (bits false e refl)

  -- where nothing is said of what is wanted
  pub as_states : (s t : State) → omit_state h s ≡ omit_state h t → s.policy ≡ p → AreAsOmitted false s t
  as_states s t same is = record { same = same; policy = is; given = λ e. never e }

  -- two steps that come to the same
  pub as_steps : (r q : Stepped) → Passes h p r q → Comes false r q
  as_steps r q x tells = ((x tells).0, ((x tells).1, λ e. never e))

  -- and back
  pub of_steps : (r q : Stepped) → Comes false r q → Passes h p r q
  of_steps r q x tells = ((x tells).0, (x tells).1.0)

  -- ---- what is read

  hides_inserted : (o : Option ℕ) → Hides h (λ w. inserted_by_choice w o)
  hides_inserted None w = plain h w
  hides_inserted (Some c) w = plain h (with_insert w (to_local c))

  hides_chosen : (t : ℕ) → Hides h (λ w. chosen_by_default w t)
  hides_chosen t = by_linux h (λ w. inserted_by_choice (after_claim w (choice w t)) (choice w t)) one
    where
      one : Hides h (λ w. inserted_by_choice (after_claim w (choice w t)) (choice w t))
      one w =
          both h (λ v. after_claim v (choice w t)) (λ v. inserted_by_choice v (choice w t)) (hides_claim h (choice w t)) (hides_inserted (choice w t)) w
          ∙ ap (λ (o : Option ℕ). omit h (inserted_by_choice (after_claim (omit h w) o) o)) (chosen_same h w t)

  overdue_is : h.parts.waits ≡ false → (s : State) → overdue s ≡ overdue (omit_state h s)
  overdue_is e s = ap (λ (o : Option ℕ). cond (is_ejected s) None o) (overdue_same h e s.world s.policy.timeout_ms)

  -- what is read alike of a state without what is left out
  alike : {A : Type 0} (f : State → A) → ((s : State) → f s ≡ f (omit_state h s)) → (s t : State) → omit_state h s ≡ omit_state h t → f s ≡ f t
  alike f k s t e = k s ∙ ap f e ∙ sym (k t)

  slices_same : (s t : State) → omit_state h s ≡ omit_state h t → (u : ℕ) → h.idle u ≡ false → ((task_at s.world u).slice == 0) ≡ ((task_at t.world u).slice == 0)
  slices_same s t e u out = alike (λ x. (task_at x.world u).slice == 0) (λ x. read_busy h (λ y. y.slice == 0) (λ y. refl) x.world u (out_busy h.idle x.world u out)) s t e

  reads : (s t : State) → AreAsOmitted false s t → ReadAlike Left s t
  reads s t x = let e = x.same in record {
    policy = ap (λ (y : State). y.policy) e;
    ejected = ap (λ (y : State). is_ejected y) e;
    linux = ap (λ (y : State). is_by_linux y) e;
    cpus = ap (λ (y : State). y.world.cpus) e;
    slept = ap (λ (y : State). y.world.passing.slept) e;
    kicked = λ linux. ap (λ (y : State). y.world.kicked) e;
    preempted = λ linux. ap (λ (y : State). y.world.preempted) e;
    timers = ap (λ (y : State). length y.world.timers) e;
    ticks = λ linux. ap (λ (y : State). is_tick_time y) e;
    idle = λ c. ap (λ (y : State). is_idle y.world c) e;
    homes = λ u. alike (λ y. (task_at y.world u).prev_cpu) (λ y. read h (λ v. v.prev_cpu) (λ v. refl) (λ v. refl) y.world u) s t e;
    first_homes = λ u. ap (λ (y : State). first_home y.world u) e;
    one_cpu = λ u. ap (λ (y : State). has_one_cpu y.world u) e;
    throttled = λ u. alike (λ y. is_throttled y.world u) (λ y. throttled_same h y.world u) s t e;
    slices = slices_same s t e;
    lengths = λ q. ap (λ (y : State). len_of y.world.queues q) e;
    fronts = λ q. ap (λ (y : State). front_of y.world.queues q) e;
    behind = λ u. ap (λ (y : State). behind_of y.world.queues u) e;
    places = λ u. ap (λ (y : State). queue_of y.world.queues u) e;
    locals = λ c u. ap (λ (y : State). is_local y c u) e;
    next = λ q c. ap (λ (y : State). next_for y.world q c) e;
    alarms = λ n. let at : State → Option Alarm = λ y. due_now y.world (alarm_at y.world n) in same_cpus (at s) (at t) (ap at e);
    choices = λ u. alike (λ y. default_choice y.world u) (λ y. choice_same h y.world u) s t e;
    allowed = λ u c. ap (λ (y : State). may_run y.world u c) e;
  }

  -- ---- small steps

  -- a change of the world that doesn't depend on what is left out, in both of these states
  changed : (f : WorldState → WorldState) (s t : State) → omit_state h s ≡ omit_state h t → Same h (f s.world) (f (omit h s.world)) → Same h (f t.world) (f (omit h t.world)) → omit_state h (with_world s (f s.world)) ≡ omit_state h (with_world t (f t.world))
  changed f s t e here there = ap (λ (u : WorldState). with_world s u) here ∙ ap (λ (y : State). with_world y (omit h (f y.world))) e ∙ sym (ap (λ (u : WorldState). with_world t u) there)

  -- or anywhere, if it keeps what is wanted
  changes_so : (b : Bool) (f : WorldState → WorldState) → Hides h f → ((w : WorldState) → Wants w.call.insert → Wants (f w).call.insert) → Changes Left b f
  changes_so b f hides wants s t x = record { same = changed f s t x.same (hides s.world) (hides t.world); policy = x.policy; given = λ e. if_any h.idle (wants s.world) (x.given e) }

  changes : (f : WorldState → WorldState) → Hides h f → Changes Left false f
  changes f hides s t x = as_states (with_world s (f s.world)) (with_world t (f t.world)) (changed f s t x.same (hides s.world) (hides t.world)) x.policy

  -- where a queue is one of tasks that aren't held, its first task isn't idle
  fills : (q c : ℕ) → (q == held_queue) ≡ false → (w : WorldState) (t : ℕ) → fill_front w q c ≡ Some t → is_idle_of h.idle w t ≡ false
  fills q c other w t e = go (nat_lt 0 (local_len w c)) e
    where
      go : (b : Bool) → (cond b None (next_for w q c)) ≡ Some t → is_idle_of h.idle w t ≡ false
      go true is = absurd (cc)
      go false is = queued_busy h.idle w t q other (next_seen w q c t is).there

  filled : (b : Bool) (q c : ℕ) → (q == held_queue) ≡ false → Changes Left b (λ w. after_fill w q c)
  filled b q c other s t x =
      let hides : Hides h (λ w. after_fill w q c) = λ w. hides_brought h (fill_front w q c) c w (fills q c other w) in
      changes_so b (λ w. after_fill w q c) hides (λ w wants. filled_wants (fill_front w q c) c w wants) s t x

  parked : (b : Bool) (q u : ℕ) (s t : State) → (q == held_queue) ≡ false → IsThrottledIn s q u → AreAsOmitted b s t → AreAsOmitted b (with_world s (put_parked (after_leave s.world u) u)) (with_world t (put_parked (after_leave t.world u) u))
  parked b q u s t other found x =
      let f : WorldState → WorldState = λ w. put_parked (after_leave w u) u in
      let there : queue_of t.world.queues u ≡ Some q = ap (λ (y : State). queue_of y.world.queues u) (sym x.same) ∙ found.there in
      record {
        same = changed f s t x.same (hides_parked_from h u s.world (queued_busy h.idle s.world u q other found.there)) (hides_parked_from h u t.world (queued_busy h.idle t.world u q other there));
        policy = x.policy;
        given = λ e. if_any h.idle (λ wants. keeps_if (λ (v : WorldState). Wants v.call.insert) (nat_lt u (length s.world.tasks)) _ (after_leave s.world u) wants wants) (x.given e);
      }

  -- where enqueue wants it a task is given a slice, or it is held
  given_choice : (q : Option VerifiedProgram) (t c : ℕ) (o : Option Insert) → IfAny h.idle (Wants o) → MayEnter h.idle t (enqueue_choice q c o)
  given_choice None t c o wants = Given refl
  given_choice (Some x) t c None wants = Held refl
  given_choice (Some x) t c (Some i) wants = may_enter h.idle t (enqueue_choice (Some x) c (Some i)) wants

  given_out_at : (b : Callback) (a : Args) → IsGiven Left b a → IsOutAt h b a
  given_out_at _ _ (Early b a early) = early_out h b a early
  given_out_at _ _ (Alone b u out) = given_out h b (one_task u) u (λ v. alone (u == v)) out
  given_out_at _ _ (Counted b u n out) = given_out h b (task_and_number u n) u (λ v. alone (u == v)) out

  joined : (b c : Bool) (r q r' q' : Stepped) → Comes b r q → (AreAsOmitted b r.state q.state → Comes c r' q') → Comes c (one_after_other r r') (one_after_other q q')
  joined b c r q r' q' first next tells =
      let x = first (tells_first h p r r' q q' tells) in
      let more : Passes h p r' q' = λ k. let y = next (record { same = ap (λ (z : Stepped). z.state) x.0; policy = x.1.0; given = x.1.1 }) k in (y.0, y.1.0) in
      let both = joins h p r q r' q' (λ k. (x.0, x.1.0)) (λ e is. more) tells in
      (both.0, (next (record { same = ap (λ (z : Stepped). z.state) x.0; policy = x.1.0; given = x.1.1 }) (tells_second h p r r' q q' tells)).1)

  -- a callback, and what follows it
  called : (s t : State) (b : Callback) (a : Args) (u c : ℕ) → IsGiven Left b a → AreAsOmitted false s t → (d : Bool) (r q : Stepped)
      → (AreAsOmitted true (call_back s b a u c).state (call_back t b a u c).state → AnswersAlike s t b a u c → Comes d r q)
      → Comes d (one_after_other (call_back s b a u c) r) (one_after_other (call_back t b a u c) q)
  called s t b a u c given e d r q next tells = go known tells
    where
      out : IsOutAt h b a
      out = given_out_at b a given

      call : State → Stepped
      call x = call_back x b a u c

      there : t.policy ≡ p
      there = sym (ap (λ (x : State). x.policy) e.same) ∙ e.policy

      passes : On h p call
      passes = passes_call_back h p b a u c out

      known : Tells h p (call s) (call t)
      known = tells_first h p (call s) r (call t) q tells

      here : Tells h p (call s) (call (omit_state h s))
      here = known_here h p call passes s t e.same e.policy known

      beyond : Tells h p (call t) (call (omit_state h t))
      beyond = known_there h p call passes s t e.same e.policy known

      answers : AnswersAlike s t b a u c
      answers = record {
        answer = answered_same h p b a u c out s e.policy here ∙ ap (λ (x : State). answered_by x b a u c) e.same ∙ sym (answered_same h p b a u c out t there beyond);
        left = λ x n. ap (tells_left x n) (noted_same h p b a u c out s e.policy here ∙ ap (λ (y : State). noted_by y b a u c) e.same ∙ sym (noted_same h p b a u c out t there beyond));
      }

      first : Comes true (call s) (call t)
      first k = let x = from h p call passes s t e.same e.policy k in (x.0, (x.1, λ is. call_back_wants h p b a u c out s e.policy (known_here h p call passes s t e.same e.policy k)))

      go : Tells h p (call s) (call t) → Comes d (one_after_other (call s) r) (one_after_other (call t) q)
      go k = joined true d (call s) (call t) r q first (λ x. next x answers)

  stalled : (u : ℕ) → On h p (λ s. eject s (cause.Stall u s.world.clock))
  stalled u s is = passes_eject h p (cause.Stall u s.world.clock) s is

  -- each small step keeps that
  pub small : IsPaired Left
  small = record {
    reads = reads;
    calls = λ s t x. record { moved = ap (λ (y : State). y.world.call.has_moved) x.same; wanted = ap (λ (y : State). y.world.call.insert) x.same };
    eased = λ s t x. as_states s t x.same x.policy;
    rests = λ b s t x tells. (ap (λ (y : State). stays y) x.same, (x.policy, x.given));
    joined = joined;
    noted = λ b s t x w r q y tells. (
      ap (λ (v : Stepped). after (note_now s.world w ∷ []) v) (y tells).0 ∙ ap (λ (v : State). after (note_now v.world w ∷ []) (omit_step h q)) x.same,
      (y tells).1,
    );
    called = called;
    filled = filled;
    parked = parked;
    moved = λ m. changes_so true (λ w. record w { call = record w.call { has_moved = m } }) (λ w. plain h (record w { call = record w.call { has_moved = m } })) (λ w wants. wants);
    chooses = λ s t u c x. given_choice s.policy.callbacks.enqueue u c s.world.call.insert (x.given refl);
    inserts = λ s t u c i x is. may_enter h.idle u (for_cpu c i) (if_any h.idle (subst Wants is) (x.given refl));
    fronts = λ u c out. Out out;
    entered = λ u i may. changes (λ w. after_enter w u i) (hides_enter h u i may);
    put = λ u. changes (λ w. put_builtin w u) (hides_put_builtin h u);
    stopped = λ c u. changes (λ w. after_stop w c u) (hides_stop h c u);
    charged = λ u out. changes (λ w. after_charge w u) (hides_charge h u out);
    kept = λ o. changes (λ w. after_keep w o) (hides_keep h o);
    switched = λ u. changes (λ w. after_switch w u) (hides_switch h u);
    kicked = λ c. changes (λ w. with_kick w c) (λ w. plain h (with_kick w c));
    unkicked = λ c. changes (λ w. without_kick w c) (λ w. plain h (without_kick w c));
    cut_off = λ u. changes (λ w. after_cut_off w u) (hides_cut_off h u);
    cycling = λ o. changes (λ w. with_cycling w o) (hides_cycling h o);
    out_of_cycle = changes (λ w. out_of_cycle w) (λ w. plain h (out_of_cycle w));
    woken = λ u. changes (λ w. after_wake w u) (hides_wake h u);
    waker = λ o. changes (λ w. with_waker w o) (λ w. plain h (with_waker w o));
    homed = λ u c. changes_so true (λ w. homed w u c) (hides_homed h u c) (λ w. wants_homed w u c);
    chosen = λ u. changes_so true (λ w. chosen_by_default w u) (hides_chosen u) (λ w. chosen_wants w u);
    at_hand = λ u c s t x. record {
      same = changed (λ w. at_callback w callback.SelectCpu u c) s t x.same (plain h (at_callback s.world callback.SelectCpu u c)) (plain h (at_callback t.world callback.SelectCpu u c));
      policy = x.policy;
      given = λ is. inr tt;
    };
    asleep = λ u. changes (λ w. after_sleep w u) (hides_sleep h u);
    slept = λ u. changes (λ w. with_slept w u) (λ w. plain h (with_slept w u));
    switching = λ c. changes (λ w. with_switch w c) (hides_begin_switch h c);
    left = λ u. changes (λ w. after_leave w u) (hides_leave h u);
    parks = λ u out. changes (λ w. put_parked w u) (hides_parked h u out);
    ticked = λ u. changes (λ w. after_tick w u) (hides_tick h u);
    used = λ u. changes (λ w. used_ms w u) (hides_used h u);
    let_off = λ u. changes (λ w. let_go w u) (hides_let_go h u);
    fired = λ n. changes (λ w. after_fire w n) (λ w. plain h (after_fire w n));
    unhanded = changes (λ w. with_timer_at_hand w None) (λ w. plain h (with_timer_at_hand w None));
    reweighed = λ g x. changes (λ w. after_reweigh w g x) (hides_reweigh h g x);
    weighed = λ u x. changes (λ w. after_own_weight w u x) (hides_own_weight h u x);
    stalled = λ u s t x. as_steps (eject s (cause.Stall u s.world.clock)) (eject t (cause.Stall u t.world.clock)) (from h p (λ y. eject y (cause.Stall u y.world.clock)) (stalled u) s t x.same x.policy);
  }

  caught : (u : ℕ) → Changes Left false (λ w. after_catch_up w u)
  caught u = changes (λ w. after_catch_up w u) (hides_catch_up h u)

-- ---- a task begins to run

module _ (h : Omitted) (p : PolicyState) where
  -- A task that isn't idle comes to run by a change that doesn't depend on what is left out: it isn't idle as it begins to, so its
  -- slice isn't left out any more.
  pair_begins : (f : WorldState → WorldState) (c u : ℕ) (s t : State) → AreAsOmitted h p false s t → is_idle_of h.idle s.world u ≡ false → ((g : Omitted) (w : WorldState) → is_idle_of g.idle w u ≡ false → Same g (f w) (f (omit g w)))
      → Comes h p false (begun c u (with_world s (f s.world))) (begun c u (with_world t (f t.world)))
  pair_begins f c u s t x busy hides =
      let g = here h s.world in
      let r = begun c u (with_world s (f s.world)) in
      let q = begun c u (with_world t (f t.world)) in
      as_steps h p r q (follows h s.world p r q (of_steps g p r q (pair_begun (Left g p) (small g p) c u busy (caught g p u) (with_world s (f s.world)) (with_world t (f t.world))
      (as_states g p (with_world s (f s.world)) (with_world t (f t.world)) (changed g p f s t (same_here h s t x.same) (hides g s.world (out_busy g.idle s.world u busy)) (hides g t.world (out_busy g.idle t.world u busy))) x.policy))))

  -- each small step keeps that, and tasks of local queues begin to run alike
  pub whole : IsPairedWhole (Left h p)
  whole = record {
    small = small h p;
    starts = λ c u s t x front. pair_begins (λ w. started_at (Some u) w c) c u s t x (queued_busy h.idle s.world u (local_on c) (local_other c) (front_in s.world.queues (local_on c) u front)) (λ g w k. hides_started g u c w k);
    runs = λ c u s t x local. pair_begins (λ w. after_run w c u) c u s t x (queued_busy h.idle s.world u (local_on c) (local_other c) (in_queue (local_on c) (entry_of s.world.queues u) local)) (λ g w k. hides_run g c u w k);
  }

  -- periods begin in both
  begins : (s t : State) → omit_state h s ≡ omit_state h t → s.policy ≡ p → BeginAlike (Left h p) whole s t
  begins s t same is =
      let f : State → State = λ x. with_world x (begun_periods (later x.world)) in
      as_states h p (f s) (f t) (ap f same) is

  -- none of those tasks runs
  abbrev IsApart : WorldState → Type 0
  IsApart w = (u : ℕ) → runs_on u w.cpus ≡ true → h.idle u ≡ false

  -- a round of two states that are the same, where none of those tasks runs
  pub passes_any_round : (c : ℕ) (s t : State) → omit_state h s ≡ omit_state h t → s.policy ≡ p → IsApart s.world → is_by_linux s ≡ true → Passes h p (round s c) (round t c)
  passes_any_round c s t same is apart linux = of_steps h p (round s c) (round t c) (pair_round (Left h p) whole c s t (as_states h p s t same is) linux (out (running s.world c) refl))
    where
      out : (o : Option ℕ) → running s.world c ≡ o → Told (Left h p) whole o
      out None e = tt
      out (Some u) e = apart u (on_that s.world.cpus c u e)

  -- and an event of two such states, in both of which the same task or none waits too long
  pub passes_own : (e : Event) (s t : State) → omit_state h s ≡ omit_state h t → s.policy ≡ p → IsApart s.world → late_in s e ≡ late_in t e → Passes h p (own_step s e) (own_step t e)
  passes_own e s t same is apart late = of_steps h p (own_step s e) (own_step t e) (pair_own (Left h p) whole e s t (as_states h p s t same is) apart (begins s t same is) late)

  late_shown : h.parts.waits ≡ false → (s t : State) → omit_state h s ≡ omit_state h t → s.policy ≡ p → Tells h p (clock s) (clock t) → late_in s Clock ≡ late_in t Clock
  unfolding clock timers_and_watchdog
  late_shown e s t same is tells =
      let r = once_let_go s in
      let q = once_let_go t in
      let f = fire_all r.state in
      let g = fire_all q.state in
      let x = pair_once_fired (Left h p) whole s t (begins s t same is) (tells_two h p r f (watch f.state) q g (watch g.state) tells) in
      overdue_is h p e (once_later s).state ∙ ap (λ (y : Stepped). overdue y.state) x.0 ∙ sym (overdue_is h p e (once_later t).state)

  -- where waits aren't hidden it does
  pub late_same : h.parts.waits ≡ false → (e : Event) (s t : State) → omit_state h s ≡ omit_state h t → s.policy ≡ p → Tells h p (own_step s e) (own_step t e) → late_in s e ≡ late_in t e
  late_same shown e s t same is tells = late_by s t e (λ at. subst (λ (x : Event). Tells h p (own_step s x) (own_step t x) → late_in s x ≡ late_in t x) (sym at) (late_shown shown s t same is) tells)
