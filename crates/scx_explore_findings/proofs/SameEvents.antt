-- Each event leads from two states that are the same but for unread parts to two such states, with the same notes.
use Rattle.std.proofs.Common.{◌+◌, ◌≡◌, ◌==◌, ◌&&◌, Bool, true, false, length, Option, Some, None, refl, ap, subst, is_none, sym, ℕ}
use Rattle.scx_isa_semantics.specs.declared.callbacks.Callback.TheVariants as callback
use Rattle.scx_sched_world.specs.declared.call.Call.{Call}
use Rattle.scx_sched_world.specs.CpuSets.{and_cpu, but_cpu}
use Rattle.scx_weights.specs.Limits as limits
use Rattle.scx_sched_world.specs.declared.eject.Eject.TheVariants as cause
use Rattle.scx_sched_world.specs.declared.timers.Alarm.{Alarm}
use Rattle.scx_sched_world.specs.Ids.{local_on}
use Rattle.scx_sched_world.specs.World as world
use Rattle.scx_sched_world.specs.World.{with_switch, with_kick, with_slept, with_waker, with_timer_at_hand, task_at, first_home, is_throttled, is_idle, choice, after_claim, at_callback, are_linux, has_one_cpu, out_of_cycle, with_cycling, without_kick, default_choice, may_run}
use Rattle.scx_sched_world.specs.Tasks.{to_local, homed, after_wake, after_sleep, after_leave, after_stop, let_go, after_tick, used_ms, later, begun_periods, after_reweigh, after_own_weight, after_cut_off, after_enter, after_fill, after_keep, after_run, after_switch, next_for, put_parked, started_at}
use Rattle.scx_sched_world.specs.Helpers.{alarm_at, due_now, after_fire}
use Rattle.scx_sched_machine.specs.declared.events.Event.{Event}
use Rattle.scx_sched_machine.specs.declared.events.Event.TheVariants.{Wake, Sleep, Tick, Clock, SetWeight, SetTaskWeight}
use Rattle.scx_sched_machine.specs.Steps.{State, Stepped, with_world, is_by_linux, one_after_other, is_ejected}
use Rattle.scx_sched_machine.specs.Callbacks.{call_back}
use Rattle.scx_sched_machine.specs.Custody.{tells_left}
use Rattle.scx_sched_machine.specs.Events.{refusal, inserted_by_choice, chosen_by_default, overdue, event_step, is_tick_time}
use Rattle.scx_explore_findings.specs.UnreadParts.{Parts, AreAsStates, parts_of}
use Rattle.scx_explore_findings.proofs.SameQueues.{queue_same, len_same, front_same, behind_same, in_same}
use Rattle.scx_explore_findings.proofs.SameWorlds.{next_same as world_next_same, called as called_at, Skips, plain, recalled, rekicked, reused, both, throttled_same, if_so, skips_homed, skips_leave, skips_stop, skips_begin_switch, skips_claim, skips_wake, skips_sleep, skips_let_go, skips_tick, skips_used, skips_reweigh, skips_own_weight, skips_catch_up, skips_charge, skips_cut_off, skips_cycling, skips_enter, skips_fill, skips_keep, skips_parked, skips_put_builtin, skips_run, skips_started, skips_switch, true_isnt_false}
use Rattle.scx_explore_findings.proofs.SameSteps.{re, Passes, joins, eased, noted, passes_eject, answered_same, passes_call_back, alike, changes, in_state, noted_same}
use Rattle.scx_explore_findings.proofs.Paired.{AnswersAlike, IsPaired, IsPairedWhole, ReadAlike, Relation, same_cpus}
use Rattle.scx_vm.specs.declared.arguments.Args.{Args}
use Rattle.scx_explore_findings.proofs.PairedEvents.{BeginAlike, pair_once_fired, pair_event}
use Rattle.scx_isa_semantics.specs.declared.callbacks.Callback.{Callback}
use Rattle.scx_sched_world.specs.Ejecting.{after_catch_up, after_charge, put_builtin}
use Rattle.scx_sched_machine.specs.Ejecting.{eject}
use Rattle.scx_explore_findings.specs.HiddenStates.{late_in}
use Rattle.scx_explore_findings.proofs.PairedSteps.{begun_anyhow}

left_true : (a b : Bool) → (a && b) ≡ true → a ≡ true
left_true true b e = refl
left_true false b e = absurd (true_isnt_false (sym e))

module _ {same : Bool} where
  skips_inserted : (o : Option ℕ) → Skips same (λ w. inserted_by_choice w o)
  skips_inserted None w z m = plain w z m
  skips_inserted (Some c) w z m = recalled (λ j. record j { insert = Some (to_local c) }) w z m

  skips_chosen : (t : ℕ) → Skips same (λ w. chosen_by_default w t)
  skips_chosen t w z m =
      if_so (world.is_by_linux w) (λ v. inserted_by_choice (after_claim v (choice v t)) (choice v t)) w z m
      (both (λ v. after_claim v (choice w t)) (λ v. inserted_by_choice v (choice w t)) (skips_claim (choice w t)) (skips_inserted (choice w t)) w z m)

-- ---- two machines

-- two states that are the same but for unread parts
abbrev Same : Relation
Same = record { states = AreAsStates; steps = Passes; told = λ u. Unit {0}; may = λ u i. Unit {0} }

reads : (s t : State) → AreAsStates false s t → ReadAlike Same s t
reads s t e = record {
  policy = ap (λ (x : State). x.policy) e.rest;
  ejected = ap (λ (x : State). is_ejected x) e.rest;
  linux = ap (λ (x : State). is_by_linux x) e.rest;
  cpus = ap (λ (x : State). x.world.cpus) e.rest;
  slept = ap (λ (x : State). x.world.passing.slept) e.rest;
  kicked = λ linux. e.parts.kicked (left_true (are_linux s.world.rules) (is_none s.world.ejected) linux);
  preempted = λ linux. e.parts.preempted (left_true (are_linux s.world.rules) (is_none s.world.ejected) linux);
  timers = ap (λ (x : State). length x.world.timers) e.rest;
  ticks = λ linux. ap (λ (x : State). is_tick_time x) e.rest;
  idle = λ c. ap (λ (x : State). is_idle x.world c) e.rest;
  homes = λ u. ap (λ (x : State). (task_at x.world u).prev_cpu) e.rest;
  first_homes = λ u. ap (λ (x : State). first_home x.world u) e.rest;
  one_cpu = λ u. ap (λ (x : State). has_one_cpu x.world u) e.rest;
  throttled = λ u. alike (λ x. is_throttled x.world u) (λ x z m. throttled_same x.world z m u) s t e;
  slices = λ u told. ap (λ (x : State). (task_at x.world u).slice == 0) e.rest;
  lengths = λ q. len_same s.world.queues t.world.queues e.parts.queues q;
  fronts = λ q. front_same s.world.queues t.world.queues e.parts.queues q;
  behind = λ u. behind_same s.world.queues t.world.queues e.parts.queues u;
  places = λ u. queue_same s.world.queues t.world.queues e.parts.queues u;
  locals = λ c u. in_same s.world.queues t.world.queues e.parts.queues (local_on c) u;
  next = λ q c. alike (λ x. next_for x.world q c) (λ x z m. world_next_same x.world z m q c) s t e;
  alarms = λ n. let at : State → Option Alarm = λ x. due_now x.world (alarm_at x.world n) in same_cpus (at s) (at t) (ap at e.rest);
  choices = λ u. ap (λ (x : State). default_choice x.world u) e.rest;
  allowed = λ u c. ap (λ (x : State). may_run x.world u c) e.rest;
}

-- a callback, and what follows it
called : (b : Callback) (a : Args) (u c : ℕ) (d : Bool) (s t : State) → AreAsStates false s t → (r q : Stepped)
    → (AreAsStates true (call_back s b a u c).state (call_back t b a u c).state → AnswersAlike s t b a u c → Passes d r q)
    → Passes d (one_after_other (call_back s b a u c) r) (one_after_other (call_back t b a u c) q)
called b a u c d s t e r q =
    let z = parts_of t.world in
    subst (λ (x : State). (AreAsStates true (call_back s b a u c).state (call_back x b a u c).state → AnswersAlike s x b a u c → Passes d r q) → Passes d (one_after_other (call_back s b a u c) r) (one_after_other (call_back x b a u c) q)) e.rest
    (λ next. joins true d (call_back s b a u c) (call_back (re s z) b a u c) r q (passes_call_back b a u c s z e.parts) (λ h. next h (record {
      answer = answered_same s b a u c z e.parts;
      left = λ x n. ap (tells_left x n) (noted_same s b a u c z e.parts);
    })))

-- each small step keeps that
small : IsPaired Same
small = record {
  reads = reads;
  calls = λ s t e. record { moved = ap (λ (x : Call). x.has_moved) (e.parts.call refl); wanted = ap (λ (x : Call). x.insert) (e.parts.call refl) };
  eased = λ s t e. eased s t e;
  rests = λ b s t e. (e, refl);
  joined = joins;
  noted = noted;
  called = λ s t b a u c given e d r q. called b a u c d s t e r q;
  filled = λ b q c other. changes (λ w. after_fill w q c) (skips_fill q c);
  parked = λ b q u s t other there. changes (λ w. put_parked (after_leave w u) u) (both (λ w. after_leave w u) (λ w. put_parked w u) (skips_leave u) (skips_parked u)) s t;
  moved = λ m. changes (λ w. record w { call = record w.call { has_moved = m } }) (λ w y l. recalled (λ j. record j { has_moved = m }) w y l);
  chooses = λ s t u c e. tt;
  inserts = λ s t u c i e is. tt;
  fronts = λ u c told. tt;
  entered = λ u i may. changes (λ w. after_enter w u i) (skips_enter u i);
  put = λ u. changes (λ w. put_builtin w u) (skips_put_builtin u);
  stopped = λ c u. changes (λ w. after_stop w c u) (skips_stop c u);
  charged = λ u told. changes (λ w. after_charge w u) (skips_charge u);
  kept = λ o. changes (λ w. after_keep w o) (skips_keep o);
  switched = λ u. changes (λ w. after_switch w u) (skips_switch u);
  kicked = λ c. changes (λ w. with_kick w c) (λ w z m. rekicked (λ x. and_cpu x c) (λ x. x) w z m);
  unkicked = λ c. changes (λ w. without_kick w c) (λ w z m. rekicked (λ x. but_cpu x c) (λ x. but_cpu x c) w z m);
  cut_off = λ u. changes (λ w. after_cut_off w u) (skips_cut_off u);
  cycling = λ o. changes (λ w. with_cycling w o) (skips_cycling o);
  out_of_cycle = changes (λ w. out_of_cycle w) (λ w z m. plain (out_of_cycle w) z m);
  woken = λ u. changes (λ w. after_wake w u) (skips_wake u);
  waker = λ o. changes (λ w. with_waker w o) (λ w z m. plain (with_waker w o) z m);
  homed = λ u c. changes (λ w. homed w u c) (skips_homed u c);
  chosen = λ u. changes (λ w. chosen_by_default w u) (skips_chosen u);
  at_hand = λ u c s t e. let at : State → State = λ x. with_world x (at_callback x.world callback.SelectCpu u c) in subst (λ (x : State). AreAsStates true (at s) (at x)) e.rest (in_state s (at s).world (at (re s (parts_of t.world))).world (called_at callback.SelectCpu u c s.world (parts_of t.world) e.parts));
  asleep = λ u. changes (λ w. after_sleep w u) (skips_sleep u);
  slept = λ u. changes (λ w. with_slept w u) (λ w z m. plain (with_slept w u) z m);
  switching = λ c. changes (λ w. with_switch w c) (skips_begin_switch c);
  left = λ u. changes (λ w. after_leave w u) (skips_leave u);
  parks = λ u told. changes (λ w. put_parked w u) (skips_parked u);
  ticked = λ u. changes (λ w. after_tick w u) (skips_tick u);
  used = λ u. changes (λ w. used_ms w u) (skips_used u);
  let_off = λ u. changes (λ w. let_go w u) (skips_let_go u);
  fired = λ n. changes (λ w. after_fire w n) (λ w z m. plain (after_fire w n) z m);
  unhanded = changes (λ w. with_timer_at_hand w None) (λ w z m. plain (with_timer_at_hand w None) z m);
  reweighed = λ g x. changes (λ w. after_reweigh w g x) (skips_reweigh g x);
  weighed = λ u x. changes (λ w. after_own_weight w u x) (skips_own_weight u x);
  stalled = λ u s t e. subst (λ (y : State). Passes false (eject s (cause.Stall u s.world.clock)) (eject y (cause.Stall u y.world.clock))) e.rest (passes_eject (cause.Stall u s.world.clock) s (parts_of t.world) e.parts);
}

whole : IsPairedWhole Same
whole = begun_anyhow Same small (λ u. tt) (λ u. changes (λ w. after_catch_up w u) (skips_catch_up u)) (λ c u. changes (λ w. started_at (Some u) w c) (skips_started (Some u) c)) (λ c u. changes (λ w. after_run w c u) (skips_run c u))

-- periods begin in both
begins : (s t : State) → AreAsStates false s t → BeginAlike Same whole s t
begins = changes (λ w. begun_periods (later w)) (λ w z m. reused (λ us. (limits.with_turn (record w.tree { usages = us }) (w.clock + 1)).usages) (later w) z m)

late_same : (s t : State) → AreAsStates false s t → late_in s Clock ≡ late_in t Clock
late_same s t same = ap (λ (x : State). overdue x) (pair_once_fired Same whole s t (begins s t same)).0.rest

-- any event
pub passes_event : (e : Event) (s t : State) → AreAsStates false s t → Passes false (event_step s e) (event_step t e)
passes_event e s t same = pair_event Same whole (λ u. tt) e s t same (begins s t same) (late_same s t same)

-- an event is refused for the same cause
pub refusal_same : (e : Event) (s : State) (z : Parts) → refusal s e ≡ refusal (re s z) e
refusal_same (Wake t) s z = refl
refusal_same (Sleep t) s z = refl
refusal_same (Tick c) s z = refl
refusal_same Clock s z = refl
refusal_same (SetWeight g x) s z = refl
refusal_same (SetTaskWeight t x) s z = refl
