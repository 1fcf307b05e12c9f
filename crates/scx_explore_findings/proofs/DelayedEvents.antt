-- Each event leads from a state that is later to one that is later by as much.
use Rattle.std.proofs.Common.{◌≡◌, ◌+◌, ◌<◌, ◌≤◌, ◌==◌, Bool, true, false, cond, nat_le, is_none, List, length, Option, Some, None, refl, sym, ap, ◌∙◌, subst, arith, map, ◌∷◌, ℕ, [], ⊎_elim}
use Rattle.std.proofs.lemmas.Bool.{and_parts, cases_lt, le-leb, lt-leb}
use Rattle.scx_dsq.specs.Queues.{len_of, front_of, behind_of, queue_of}
use Rattle.scx_isa_semantics.specs.declared.callbacks.Callback.{Callback}
use Rattle.scx_isa_semantics.specs.declared.callbacks.Callback.TheVariants as callback
use Rattle.scx_isa_semantics.specs.declared.rules.Rules.{Rules}
use Rattle.scx_sched_world.specs.declared.eject.Eject.TheVariants as cause
use Rattle.scx_sched_world.specs.declared.timers.Alarm.{Alarm}
use Rattle.scx_weights.specs.Hierarchy.{Hierarchy}
use Rattle.scx_weights.specs.Limits as limits
use Rattle.scx_weights.specs.Refusals.{max_weight, is_outside}
use Rattle.scx_sched_world.specs.World.{WorldState, are_linux, with_switch, with_kick, with_slept, with_waker, with_timer_at_hand, task_at, is_runnable, first_home, has_one_cpu, is_throttled, is_idle, choice, after_claim, at_callback, out_of_cycle, with_cycling, without_kick, default_choice, may_run}
use Rattle.scx_sched_world.specs.Tasks.{homed, after_wake, after_sleep, after_leave, after_stop, let_go, after_tick, used_ms, later, begun_periods, after_reweigh, after_own_weight, after_cut_off, after_enter, after_fill, after_keep, after_run, after_switch, next_for, put_parked, started_at}
use Rattle.scx_sched_world.specs.Waits.{first_overdue}
use Rattle.scx_sched_world.specs.Helpers.{alarm_at, due_now, after_fire}
use Rattle.scx_sched_machine.specs.declared.events.Event.{Event}
use Rattle.scx_sched_machine.specs.declared.events.Event.TheVariants.{Wake, Sleep, Tick, Clock, SetWeight, SetTaskWeight}
use Rattle.scx_sched_machine.specs.declared.events.Refused.TheVariants.{AlreadyRunnable, NotRunnable, UnknownTask, BadWeight}
use Rattle.scx_sched_policy.specs.Policy.{PolicyState, program_of}
use Rattle.scx_sched_machine.specs.Steps.{State, Stepped, with_world, is_ejected, is_by_linux, stays, one_after_other}
use Rattle.scx_sched_machine.specs.Callbacks.{call_back, noted_by}
use Rattle.scx_sched_machine.specs.Custody.{hears_dequeue, leaver, moved_as, tells_each, tells_left, tells_of}
use Rattle.scx_sched_machine.specs.Cycle.{is_local}
use Rattle.scx_sched_machine.specs.Events.{refusal, inserted_by_choice, chosen_by_default, is_tick_time, overdue, event_step}
use Rattle.scx_explore_states.specs.Written.{past_tick}
use Rattle.scx_explore_findings.specs.Delayed.{delayed_alarm, delay, delay_state, IsClockless, IsSteady, delayed_note}
use Rattle.scx_explore_findings.proofs.DelayedTasks.{through_if, as_long, changed_at, found_at}
use Rattle.scx_explore_findings.proofs.DelayedWorlds.{Delays, both, by_linux, read, known, ejected_as, linux_as, throttled_as, chosen_as, choice_as, overdue_as_well, delays_wake, delays_sleep, delays_homed, delays_stop, delays_begin_switch, delays_claim, delays_let_go, delays_tick, delays_used, delays_reweigh, delays_own_weight, delays_catch_up, delays_charge, delays_cut_off, delays_cycling, delays_enter, delays_fill, delays_keep, delays_parked, delays_put_builtin, delays_run, delays_started, delays_switch}
use Rattle.scx_explore_findings.proofs.DelayedSteps.{joins, IsUnder, Passes, noted, passes_eject, answered_as, passes_call_back, IsLater, noted_as}
use Rattle.scx_explore_findings.proofs.DelayedTicks.{ends_as}
use Rattle.scx_explore_findings.proofs.RulesKept.{KeepsRules, rules_filled, rules_parked, rules_entered, rules_put_builtin, rules_kept, rules_cycling, rules_switch, rules_homed, rules_chosen, rules_asleep, rules_used, rules_reweighed, rules_weighed}
use Rattle.scx_explore_findings.proofs.Paired.{Changes, AnswersAlike, IsPaired, IsPairedWhole, ReadAlike, Relation, SameCpu}
use Rattle.scx_vm.specs.declared.arguments.Args.{Args}
use Rattle.scx_explore_findings.proofs.PairedEvents.{BeginAlike, pair_once_fired, pair_event}
use Rattle.scx_sched_world.specs.declared.notes.Note.{Note}
use Rattle.scx_sched_world.specs.Ejecting.{after_catch_up, after_charge, put_builtin}
use Rattle.scx_sched_machine.specs.Ejecting.{eject}
use Rattle.scx_explore_findings.specs.HiddenStates.{late_in, once_later}
use Rattle.scx_explore_findings.proofs.PairedSteps.{begun_anyhow}

-- an event of a state is refused for the same cause in one that is later
pub refusal_as : (k : ℕ) (s : State) (e : Event) → refusal s e ≡ refusal (delay_state k s) e
refusal_as k s (Wake t) = ap (λ (b : Bool). cond b (cond (is_runnable s.world t) (Some AlreadyRunnable) None) (Some UnknownTask)) (known k s.world t)
refusal_as k s (Sleep t) = ap (λ (b : Bool). cond b (cond (is_runnable s.world t) None (Some NotRunnable)) (Some UnknownTask)) (known k s.world t)
refusal_as k s (Tick c) = refl
refusal_as k s Clock = refl
refusal_as k s (SetWeight g x) = refl
refusal_as k s (SetTaskWeight t x) = ap (λ (b : Bool). cond b (cond (is_outside max_weight x) (Some BadWeight) None) (Some UnknownTask)) (known k s.world t)

-- a time is due as late as it was
as_due : (k a b : ℕ) → nat_le a b ≡ nat_le (a + k) (b + k)
as_due k a b =
    ⊎_elim (λ (l : b < a). lt-leb a b l ∙ sym (lt-leb (a + k) (b + k) (omega (arith, l))))
    (λ (l : a ≤ b). le-leb a b l ∙ sym (le-leb (a + k) (b + k) (omega (arith, l)))) (cases_lt b a)

module _ (k : ℕ) (p : PolicyState) (rules : Rules) where
  -- ---- what is read

  -- notes that are later tell of the same tasks
  each_as : (ns : List Note) (c : ℕ) (x : State) → tells_each ns x c ≡ tells_each (map (delayed_note k) ns) x c
  each_as [] c x = refl
  each_as (y ∷ ns) c x = ap (λ (q : Stepped). one_after_other (tells_of (leaver y.what) x c) q) (each_as ns c (tells_of (leaver y.what) x c).state)

  left_as : (ns : List Note) (c : ℕ) (x : State) → tells_left x c ns ≡ tells_left x c (map (delayed_note k) ns)
  unfolding tells_left
  left_as ns c x = ap (λ (r : Stepped). cond (hears_dequeue x) (record r { state = moved_as x.world.call.has_moved r.state }) (stays x)) (each_as ns c x)

  delays_inserted : (o : Option ℕ) → Delays k (λ w. inserted_by_choice w o)
  delays_inserted None w = refl
  delays_inserted (Some c) w = refl

  delays_chosen : (t : ℕ) → Delays k (λ w. chosen_by_default w t)
  delays_chosen t = by_linux k (λ w. inserted_by_choice (after_claim w (choice w t)) (choice w t)) one
    where
      one : Delays k (λ w. inserted_by_choice (after_claim w (choice w t)) (choice w t))
      one w =
          both k (λ v. after_claim v (choice w t)) (λ v. inserted_by_choice v (choice w t)) (delays_claim k (choice w t)) (delays_inserted (choice w t)) w
          ∙ ap (λ (o : Option ℕ). inserted_by_choice (after_claim (delay k w) o) o) (chosen_as k w t)

  -- whether a millisecond ends with a tick
  time_as : past_tick p.tick_ms k ≡ 0 → (s : State) → s.policy ≡ p → is_tick_time s ≡ is_tick_time (delay_state k s)
  time_as whole s is = ends_as s.policy.tick_ms s.world.clock k (ap (λ (q : PolicyState). past_tick q.tick_ms k) is ∙ whole)

  fired_as : (w : WorldState) (n : ℕ) → delay k (after_fire w n) ≡ after_fire (delay k w) n
  fired_as w n = ap (λ (xs : List (Option Alarm)). with_timer_at_hand (record (delay k w) { timers = xs }) (Some n)) (changed_at (delayed_alarm k) w.timers n None)

  due_now_as : (w : WorldState) (o : Option Alarm) → delayed_alarm k (due_now w o) ≡ due_now (delay k w) (delayed_alarm k o)
  due_now_as w None = refl
  due_now_as w (Some a) = through_if (delayed_alarm k) (nat_le a.due w.clock) (nat_le (a.due + k) (w.clock + k)) (Some a) None (delayed_alarm k (Some a)) None (as_due k a.due w.clock) refl refl

  same_cpu : (o : Option Alarm) → SameCpu o (delayed_alarm k o)
  same_cpu None = tt
  same_cpu (Some a) = refl

  -- a task that waits too long
  overdue_as_late : (s : State) → overdue s ≡ overdue (delay_state k s)
  overdue_as_late s =
      ap (λ (o : Option ℕ). cond (is_ejected s) None o) (overdue_as_well k s.world s.policy.timeout_ms)
      ∙ ap (λ (b : Bool). cond b None (first_overdue (delay k s.world) s.policy.timeout_ms)) (ejected_as k s.world.ejected)

  one_more : (n : ℕ) → n + 1 + k ≡ n + k + 1
  one_more n = omega arith

  -- the clock has grown, and periods have begun
  begun_as : (s : State) → IsSteady s → delay k (begun_periods (later s.world)) ≡ begun_periods (later (delay k s.world))
  begun_as s steady =
      let w = s.world in
      ap (λ (n : ℕ). record (delay k w) { clock = n; tree = limits.with_turn w.tree (w.clock + 1) }) (one_more w.clock)
      ∙ ap (λ (x : Hierarchy). record (delay k w) { clock = w.clock + k + 1; tree = x }) (steady (w.clock + 1) (w.clock + k + 1))

  -- ---- two machines

  -- a state and one that is later, under that policy and by those rules
  abbrev Later : Relation
  Later = record { states = λ b. IsLater k p rules; steps = λ b. Passes k p rules; told = λ u. Unit {0}; may = λ u i. Unit {0} }

  -- what is read alike of one that is later
  alike : {A : Type 0} (f : State → A) → ((s : State) → f s ≡ f (delay_state k s)) → (s t : State) → IsLater k p rules s t → f s ≡ f t
  alike f same s t e = same s ∙ ap f e.0

  -- by Linux rules the time is made of whole ticks
  abbrev AreWhole : Type 0
  AreWhole = are_linux rules ≡ true → past_tick p.tick_ms k ≡ 0

  ticks_as : AreWhole → (s t : State) → IsLater k p rules s t → is_by_linux s ≡ true → is_tick_time s ≡ is_tick_time t
  ticks_as whole s t e linux =
      time_as (whole (sym (ap are_linux e.1.1) ∙ (and_parts (are_linux s.world.rules) (is_none s.world.ejected) linux).0)) s e.1.0
      ∙ ap (λ (x : State). is_tick_time x) e.0

  reads : AreWhole → (s t : State) → IsLater k p rules s t → ReadAlike Later s t
  reads whole s t e = record {
    policy = ap (λ (x : State). x.policy) e.0;
    ejected = alike (λ x. is_ejected x) (λ x. ejected_as k x.world.ejected) s t e;
    linux = alike (λ x. is_by_linux x) (λ x. linux_as k x.world) s t e;
    cpus = ap (λ (x : State). x.world.cpus) e.0;
    slept = ap (λ (x : State). x.world.passing.slept) e.0;
    kicked = λ linux. ap (λ (x : State). x.world.kicked) e.0;
    preempted = λ linux. ap (λ (x : State). x.world.preempted) e.0;
    timers = alike (λ x. length x.world.timers) (λ x. as_long (delayed_alarm k) x.world.timers) s t e;
    ticks = ticks_as whole s t e;
    idle = λ c. ap (λ (x : State). is_idle x.world c) e.0;
    homes = λ u. alike (λ x. (task_at x.world u).prev_cpu) (λ x. read k (λ y. y.prev_cpu) (λ y. refl) x.world u) s t e;
    first_homes = λ u. ap (λ (x : State). first_home x.world u) e.0;
    one_cpu = λ u. ap (λ (x : State). has_one_cpu x.world u) e.0;
    throttled = λ u. alike (λ x. is_throttled x.world u) (λ x. throttled_as k x.world u) s t e;
    slices = λ u told. alike (λ x. (task_at x.world u).slice == 0) (λ x. read k (λ y. y.slice == 0) (λ y. refl) x.world u) s t e;
    lengths = λ q. ap (λ (x : State). len_of x.world.queues q) e.0;
    fronts = λ q. ap (λ (x : State). front_of x.world.queues q) e.0;
    behind = λ u. ap (λ (x : State). behind_of x.world.queues u) e.0;
    places = λ u. ap (λ (x : State). queue_of x.world.queues u) e.0;
    locals = λ c u. ap (λ (x : State). is_local x c u) e.0;
    next = λ q c. ap (λ (x : State). next_for x.world q c) e.0;
    alarms = λ m.
        let at : State → Option Alarm = λ x. due_now x.world (alarm_at x.world m) in
        subst (SameCpu (at s)) (due_now_as s.world (alarm_at s.world m) ∙ ap (due_now (delay k s.world)) (found_at (delayed_alarm k) s.world.timers m None) ∙ ap at e.0) (same_cpu (at s));
    choices = λ u. alike (λ x. default_choice x.world u) (λ x. choice_as k x.world u) s t e;
    allowed = λ u c. ap (λ (x : State). may_run x.world u c) e.0;
  }

  -- a change of the world
  changes : (f : WorldState → WorldState) → Delays k f → KeepsRules f → Changes Later false f
  changes f x kept s t e = (ap (λ (u : WorldState). with_world (delay_state k s) u) (x s.world) ∙ ap (λ (y : State). with_world y (f y.world)) e.0, (e.1.0, kept s.world ∙ e.1.1))

  module _ (none : (b : Callback) → IsClockless (program_of p b)) (whole : AreWhole) where
    -- a callback, and what follows it
    called : (b : Callback) (a : Args) (u c : ℕ) (s t : State) → IsLater k p rules s t → (r q : Stepped)
        → (IsLater k p rules (call_back s b a u c).state (call_back t b a u c).state → AnswersAlike s t b a u c → Passes k p rules r q)
        → Passes k p rules (one_after_other (call_back s b a u c) r) (one_after_other (call_back t b a u c) q)
    called b a u c s t e r q =
        subst (λ (x : State). (IsLater k p rules (call_back s b a u c).state (call_back x b a u c).state → AnswersAlike s x b a u c → Passes k p rules r q) → Passes k p rules (one_after_other (call_back s b a u c) r) (one_after_other (call_back x b a u c) q)) e.0
        (λ next. joins k p rules (call_back s b a u c) (call_back (delay_state k s) b a u c) r q (passes_call_back k p rules none b a u c s e.1) (λ h. next h (record {
          answer = answered_as k p rules none s b a u c e.1.0;
          left = λ x d. left_as (noted_by s b a u c) d x ∙ ap (tells_left x d) (noted_as k p rules none s b a u c e.1.0);
        })))

    -- each small step keeps that
    small : IsPaired Later
    small = record {
      reads = reads whole;
      calls = λ s t e. record { moved = ap (λ (x : State). x.world.call.has_moved) e.0; wanted = ap (λ (x : State). x.world.call.insert) e.0 };
      eased = λ s t e. e;
      rests = λ b s t e. (ap stays e.0, e.1);
      joined = λ b c. joins k p rules;
      noted = λ b. noted k p rules;
      called = λ s t b a u c given e d r q. called b a u c s t e r q;
      filled = λ b q c other. changes (λ w. after_fill w q c) (delays_fill k q c) (rules_filled q c);
      parked = λ b q u s t other there. changes (λ w. put_parked (after_leave w u) u) (λ w. delays_parked k u (after_leave w u)) (λ w. rules_parked u (after_leave w u)) s t;
      moved = λ m. changes (λ w. record w { call = record w.call { has_moved = m } }) (λ w. refl) (λ w. refl);
      chooses = λ s t u c e. tt;
      inserts = λ s t u c i e is. tt;
      fronts = λ u c told. tt;
      entered = λ u i may. changes (λ w. after_enter w u i) (delays_enter k u i) (rules_entered u i);
      put = λ u. changes (λ w. put_builtin w u) (delays_put_builtin k u) (rules_put_builtin u);
      stopped = λ c u. changes (λ w. after_stop w c u) (delays_stop k c u) (λ w. refl);
      charged = λ u told. changes (λ w. after_charge w u) (delays_charge k u) (λ w. refl);
      kept = λ o. changes (λ w. after_keep w o) (delays_keep k o) (rules_kept o);
      switched = λ u. changes (λ w. after_switch w u) (delays_switch k u) (λ w. refl);
      kicked = λ c. changes (λ w. with_kick w c) (λ w. refl) (λ w. refl);
      unkicked = λ c. changes (λ w. without_kick w c) (λ w. refl) (λ w. refl);
      cut_off = λ u. changes (λ w. after_cut_off w u) (delays_cut_off k u) (λ w. refl);
      cycling = λ o. changes (λ w. with_cycling w o) (delays_cycling k o) (rules_cycling o);
      out_of_cycle = changes (λ w. out_of_cycle w) (λ w. refl) (λ w. refl);
      woken = λ u. changes (λ w. after_wake w u) (delays_wake k u) (λ w. refl);
      waker = λ o. changes (λ w. with_waker w o) (λ w. refl) (λ w. refl);
      homed = λ u c. changes (λ w. homed w u c) (delays_homed k u c) (rules_homed u c);
      chosen = λ u. changes (λ w. chosen_by_default w u) (delays_chosen u) (rules_chosen u);
      at_hand = λ u c. changes (λ w. at_callback w callback.SelectCpu u c) (λ w. refl) (λ w. refl);
      asleep = λ u. changes (λ w. after_sleep w u) (delays_sleep k u) (rules_asleep u);
      slept = λ u. changes (λ w. with_slept w u) (λ w. refl) (λ w. refl);
      switching = λ c. changes (λ w. with_switch w c) (delays_begin_switch k c) (rules_switch c);
      left = λ u. changes (λ w. after_leave w u) (λ w. refl) (λ w. refl);
      parks = λ u told. changes (λ w. put_parked w u) (delays_parked k u) (rules_parked u);
      ticked = λ u. changes (λ w. after_tick w u) (delays_tick k u) (λ w. refl);
      used = λ u. changes (λ w. used_ms w u) (delays_used k u) (rules_used u);
      let_off = λ u. changes (λ w. let_go w u) (delays_let_go k u) (λ w. refl);
      fired = λ m. changes (λ w. after_fire w m) (λ w. fired_as w m) (λ w. refl);
      unhanded = changes (λ w. with_timer_at_hand w None) (λ w. refl) (λ w. refl);
      reweighed = λ g x. changes (λ w. after_reweigh w g x) (delays_reweigh k g x) (rules_reweighed g x);
      weighed = λ u x. changes (λ w. after_own_weight w u x) (delays_own_weight k u x) (rules_weighed u x);
      stalled = λ u s t e. let x = passes_eject k p rules (cause.Stall u s.world.clock) s e.1 in (x.0 ∙ ap (λ (y : State). eject y (cause.Stall u y.world.clock)) e.0, x.1);
    }

    walked : IsPairedWhole Later
    walked = begun_anyhow Later small (λ u. tt) (λ u. changes (λ w. after_catch_up w u) (delays_catch_up k u) (λ w. refl)) (λ c u. changes (λ w. started_at (Some u) w c) (delays_started k (Some u) c) (λ w. refl)) (λ c u. changes (λ w. after_run w c u) (delays_run k c u) (λ w. refl))

    begins : (s : State) → IsSteady s → IsUnder k p rules s → BeginAlike Later walked s (delay_state k s)
    begins s steady is = (ap (λ (u : WorldState). with_world (delay_state k s) u) (begun_as s steady), is)

    late_as : (s : State) → IsSteady s → IsUnder k p rules s → late_in s Clock ≡ late_in (delay_state k s) Clock
    late_as s steady is = overdue_as_late (once_later s).state ∙ ap (λ (r : Stepped). overdue r.state) (pair_once_fired Later walked s (delay_state k s) (begins s steady is)).0

    -- in a state that is later an event comes to the same later
    pub passes_event : (e : Event) (s : State) → IsSteady s → IsUnder k p rules s → Passes k p rules (event_step s e) (event_step (delay_state k s) e)
    passes_event e s steady is = pair_event Later walked (λ u. tt) e s (delay_state k s) (refl, is) (begins s steady is) (late_as s steady is)
