-- Between two events no cycle is under way, and nothing is kept of the event before.
use Rattle.std.proofs.Common.{◌≡◌, ℕ, Bool, ◌==◌, ◌&&◌, true, false, nat_lt, if◌then◌else◌, length, Option, Some, None, is_none, Ok, refl, ap, ◌∙◌, [], ◌∷◌}
use Rattle.scx_isa_semantics.specs.declared.callbacks.Callback.{Callback}
use Rattle.scx_isa_semantics.specs.declared.callbacks.Callback.TheVariants as callback
use Rattle.scx_weights.specs.Hierarchy.{Hierarchy, with_weight, with_own_weight}
use Rattle.scx_weights.specs.Limits.{with_use}
use Rattle.scx_weights.specs.Refusals.{weight_fault, own_weight_fault}
use Rattle.scx_sched_world.specs.declared.eject.Eject.{Eject}
use Rattle.scx_sched_world.specs.declared.eject.Eject.TheVariants as cause
use Rattle.scx_sched_world.specs.declared.passing.Passing.{Passing}
use Rattle.scx_sched_world.specs.declared.notes.What.TheVariants.{Idle}
use Rattle.scx_sched_world.specs.declared.timers.Alarm.{Alarm}
use Rattle.scx_sched_world.specs.CpuSets.{is_in_set}
use Rattle.scx_sched_world.specs.World as world
use Rattle.scx_sched_world.specs.World.{without_kick, WorldState, nothing_passes, with_tree, with_task, with_slept, with_waker, task_at, is_throttled, running, current_in, cpu_of, is_idle, at_callback, quiet, out_of_cycle, note_now}
use Rattle.scx_sched_world.specs.Tasks.{with_home, homed, after_cut_off, after_wake, after_sleep, after_leave, after_tick, used_ms, later, begun_periods, after_own_weight}
use Rattle.scx_sched_world.specs.Helpers.{after_fire}
use Rattle.scx_sched_world.specs.Ejecting.{put_out}
use Rattle.scx_sched_machine.specs.declared.events.Event.{Event}
use Rattle.scx_sched_machine.specs.declared.events.Event.TheVariants.{Wake, Sleep, Tick, Clock, SetWeight, SetTaskWeight}
use Rattle.scx_sched_policy.specs.Policy.{PolicyState}
use Rattle.scx_sched_machine.specs.Steps.{State, Stepped, stays, with_world, is_ejected, is_by_linux, kicked, kicked_if_idle}
use Rattle.scx_sched_machine.specs.Callbacks.{acting, task_cpu_and_0, task_and_number, one_number}
use Rattle.scx_sched_machine.specs.Parking.{park, let_all_go}
use Rattle.scx_sched_machine.specs.Cycle.{look, cycling, cycle, builtin_cycle, tells_idle, falls_idle, notes_idle, idle_or_anew, becomes_idle, concluded, ends}
use Rattle.scx_sched_machine.specs.Firing.{fires, fire_all}
use Rattle.scx_sched_machine.specs.Events.{woken, wake_target, chosen_by_default, from_waker, wake, told_of_sleep, falls_asleep, looks_after_sleep, leaves_cpu, sleep_from_cpu, sleep_from, sleep, throttle, ends_slices, expire, use_up, tick_heard, count_down, tick_idle, tick_of, tick, overdue, eject_if_stalled, clock, own_step, event_step, leaves_queue, sleep_from_queue, watch, timers_and_watchdog, reweigh_at, reweigh_by_linux, reweigh}
use Rattle.scx_sched_machine.specs.Rounds.{cut_off_if, look_past, look_from, round}
use Rattle.scx_sched_machine.specs.Start.{first_state, by_policy}
use Rattle.scx_sched_machine.proofs.Choices.{keeps_if}
use Rattle.scx_sched.specs.Current.{AreCurrent}
use Rattle.scx_sched.proofs.Unchanged.{IsAsBefore, IsTidy, tidy_linux, tidy_same, tidy_cycling}
use Rattle.scx_sched.proofs.Queries.{KeepsQueries, KeepsBuiltin, KeepsCallbacks, off_queues, kept_called, kept_query, kept_ejecting, kept_eject, kept_call_back}
use Rattle.scx_sched.proofs.Stepwise.{Stays, stays_walked, stays_puts, walk_put, walk_arrives, walk_arrives_told, walk_call_by_linux, walk_heard, walk_leaves_queue, KeepsPuts, walk_with_rounds, walk_fire_all, walk_let_all_go, walk_let_go_one, KeepsWake, walk_select, owns_all, walk_reweigh_at}
use Rattle.scx_sched.proofs.Blaming.{same_chosen, honest_park, honest_builtin_cycle, honest_tells_idle, honest_look, honest_leaves_cpu}
use Rattle.scx_sched.proofs.Begins.{keeps_started}
use Rattle.scx_sched.proofs.Homes.{keeps_homes}
use Rattle.scx_sched_world.specs.First.{first_world}

abbrev pub IsStill : WorldState → Type 0
IsStill w = (w.cycling ≡ None) × (w.passing ≡ nothing_passes)

-- in a wake at most the processor from which the task is woken is kept
abbrev IsWaking : WorldState → Type 0
IsWaking w = (w.cycling ≡ None) × (record w.passing { waker = None } ≡ nothing_passes) × IsTidy w

-- and while timers run, at most the one whose callback is at hand
abbrev IsFiring : WorldState → Type 0
IsFiring w = (w.cycling ≡ None) × (record w.passing { timer = None } ≡ nothing_passes) × IsTidy w

-- ---- what small steps that don't begin or end a cycle keep

-- from the first world to the second
abbrev IsAsStill : WorldState → WorldState → Type 0
IsAsStill v w = (w.ejected ≡ v.ejected) × (w.cycling ≡ v.cycling) × (w.rules ≡ v.rules) × (w.passing ≡ v.passing)

-- what is so as long as none of these changes, and as the policy is put out of force
record IsSteady (P : WorldState → Type 0) : Type 0 where
  same : (v w : WorldState) → IsAsStill v w → P v → P w
  out : (w : WorldState) (x : Eject) → P w → P (put_out w x)

still_steady : IsSteady IsStill
still_steady = record { same = λ v w x h. (x.1 ∙ h.0, x.3 ∙ h.1); out = λ w x h. (h.0, refl) }

waking_steady : IsSteady IsWaking
waking_steady = record { same = λ v w x h. (x.1 ∙ h.0, ap (λ (p : Passing). record p { waker = None }) x.3 ∙ h.1, tidy_same v w x.2 x.0 x.3 h.2); out = λ w x h. (h.0, refl, λ plain. refl) }

firing_steady : IsSteady IsFiring
firing_steady = record { same = λ v w x h. (x.1 ∙ h.0, ap (λ (p : Passing). record p { timer = None }) x.3 ∙ h.1, tidy_same v w x.2 x.0 x.3 h.2); out = λ w x h. (h.0, refl, λ plain. refl) }

tidy_steady : IsSteady IsTidy
tidy_steady = record { same = λ v w x h. tidy_same v w x.2 x.0 x.3 h; out = λ w x h plain. refl }

-- where nothing is kept, it is tidy
still_tidy : (w : WorldState) → IsStill w → IsTidy w
still_tidy w h plain = h.1

module _ (P : WorldState → Type 0) (k : IsSteady P) where
  steady_before : (v w : WorldState) → IsAsBefore v w → P v → P w
  steady_before v w x h = k.same v w (x.1, x.2, x.4, x.5) h

  steady_queries : KeepsQueries P
  steady_queries = off_queues P (λ w x other h. k.same w _ (refl, refl, refl, refl) h) (λ w n o later h. k.same w _ (refl, refl, refl, refl) h) (λ w t s v c h. k.same w _ (refl, refl, refl, refl) h) (λ w q i m a b c d n ns h. k.same w _ (refl, refl, refl, refl) h)

  steady_builtin : KeepsBuiltin P
  steady_builtin w t h = k.same w _ (refl, refl, refl, refl) h

  steady_callbacks : KeepsCallbacks P
  steady_callbacks = record { query = kept_query P steady_queries; quiet = λ w h. k.same w (quiet w) (refl, refl, refl, refl) h; out = k.out; ejecting = kept_ejecting P steady_queries steady_builtin }

  steady_begun : (w : WorldState) (b : Callback) (t c : ℕ) → P w → P (at_callback w b t c)
  steady_begun w b t c h = k.same w (at_callback w b t c) (refl, refl, refl, refl) h

  -- so steps that begin or end no cycle can be walked over
  steady_puts : KeepsPuts (Stays P)
  steady_puts = stays_puts P steady_queries steady_builtin steady_callbacks steady_begun

  steady_kicked : (s : State) (c : ℕ) → P s.world → P (kicked s c).world
  steady_kicked s c h = k.same s.world (kicked s c).world (refl, refl, refl, refl) h

  steady_kicked_if_idle : (s : State) (c : ℕ) → P s.world → P (kicked_if_idle s c).world
  steady_kicked_if_idle s c h = keeps_if (λ (r : State). P r.world) (is_by_linux s && is_idle s.world c) (kicked s c) s (steady_kicked s c h) h

  steady_homed : (w : WorldState) (t c : ℕ) → P w → P (homed w t c)
  steady_homed w t c h = keeps_if P (world.is_by_linux w) _ w (k.same w (with_task w t (with_home (task_at w t) c)) (refl, refl, refl, refl) h) h

  steady_falls_asleep : (s : State) (t c : ℕ) → P s.world → P (falls_asleep s t c).state.world
  unfolding falls_asleep
  steady_falls_asleep s t c h = walk_call_by_linux (Stays P) c (steady_puts.calls c) (with_world s (after_sleep s.world t)) callback.Quiescent (task_and_number t 1) t refl (k.same s.world (after_sleep s.world t) (asleep s.world t) h)
    where
      asleep : (w : WorldState) (t : ℕ) → IsAsStill w (after_sleep w t)
      asleep w t = keeps_if (IsAsStill w) (nat_lt t (length w.tasks)) _ w (refl, refl, refl, refl) (refl, refl, refl, refl)

  steady_left : (t : ℕ) (s : State) → Stays P s (stays (with_world s (after_leave s.world t)))
  steady_left t s h = k.same s.world (after_leave s.world t) (refl, refl, refl, refl) h

  steady_weighed : (t x : ℕ) (s : State) → Stays P s (stays (with_world s (after_own_weight s.world t x)))
  steady_weighed t x s h = let w = s.world in keeps_if P (is_none (own_weight_fault w.tree t x)) (with_tree w (with_own_weight w.tree t x)) w (k.same w (with_tree w (with_own_weight w.tree t x)) (refl, refl, refl, refl) h) h

  steady_reweigh_at : (o : Option ℕ) (s : State) (t x : ℕ) → P s.world → P (reweigh_at o s t x).state.world
  steady_reweigh_at o s t x h = walk_reweigh_at (Stays P) (Stays P) (owns_all (Stays P) (stays_walked P)) t x (steady_weighed t x) steady_puts.calls (λ u c. walk_put (Stays P) steady_puts u t c 0) (steady_left t) o s h

still_puts : KeepsPuts (Stays IsStill)
still_puts = steady_puts IsStill still_steady

-- ---- events: each cycle that begins ends

ended : (s : State) → IsTidy s.world → IsStill (cycling s None).world
ended s tidy = go (world.is_by_linux s.world) refl
  where
    w : WorldState
    w = s.world

    go : (b : Bool) → world.is_by_linux w ≡ b → IsStill (if b then record w { cycling = None; passing = nothing_passes } else record w { cycling = None })
    go true linux = (refl, refl)
    go false plain = (refl, tidy plain)

anew_ends : (s : State) (c : ℕ) → IsTidy s.world → IsStill (idle_or_anew s c).state.world
unfolding idle_or_anew notes_idle
anew_ends s c tidy =
    let v = cycling s (Some c) in
    let r = builtin_cycle v c None true in
    keeps_if (λ (x : Stepped). IsStill x.state.world) (is_ejected s) (ends r) (record { state = cycling s None; notes = note_now s.world (Idle c) ∷ []; calls = [] }) (ended r.state ((honest_builtin_cycle v c None true).tidy (tidy_cycling s.world (Some c) tidy))) (ended s tidy)

idle_ends : (s : State) (c : ℕ) → IsTidy s.world → IsStill (becomes_idle s c).state.world
unfolding becomes_idle
idle_ends s c tidy = let v = with_world s (out_of_cycle s.world) in anew_ends (tells_idle v c 1).state c ((honest_tells_idle v c 1).tidy tidy)

concluded_ends : (s : State) (c : ℕ) (ran : Bool) → IsTidy s.world → IsStill (concluded s c ran).state.world
unfolding concluded
concluded_ends s c ran tidy = keeps_if (λ (r : Stepped). IsStill r.state.world) (falls_idle s c ran) (becomes_idle s c) (stays (cycling s None)) (idle_ends s c tidy) (ended s tidy)

cycle_ends : (s : State) (c : ℕ) (p : Option ℕ) (ran : Bool) → IsTidy s.world → IsStill (cycle s c p ran).state.world
unfolding cycle
cycle_ends s c p ran h = concluded_ends (look (cycling s (Some c)) c p ran).state c ran ((honest_look (cycling s (Some c)) c p ran).tidy (tidy_cycling s.world (Some c) h))

still_wake_target : (s : State) (c : ℕ) → IsWaking s.world → IsStill (wake_target s c).state.world
unfolding wake_target
still_wake_target s c h = go (is_by_linux s) refl
  where
    go : (b : Bool) → is_by_linux s ≡ b → IsStill (if b then stays (kicked_if_idle (woken s) c) else (if is_idle s.world c then cycle s c None false else stays s)).state.world
    go true linux = steady_kicked_if_idle IsStill still_steady (woken s) c (h.0, h.1)
    go false plain = keeps_if (λ (r : Stepped). IsStill r.state.world) (is_idle s.world c) (cycle s c None false) (stays s) (cycle_ends s c None false h.2) (h.0, h.2 plain)

-- so it is once a task has come to wait
abbrev Wakes : State → Stepped → Type 0
Wakes s r = IsWaking s.world → IsStill r.state.world

waking_steps : KeepsWake (Stays IsWaking) Wakes (λ s. Unit {0})
waking_steps = record {
  none = λ s h. h;
  ending = λ s a r f g h. g (f h);
  arrives = λ s t c. walk_arrives (Stays IsWaking) (steady_puts IsWaking waking_steady) s.world.call.insert s t c;
  arrives_told = λ s t c linux. walk_arrives_told (Stays IsWaking) (steady_puts IsWaking waking_steady) s t c;
  asks = λ s t c any h. kept_call_back IsWaking (steady_callbacks IsWaking waking_steady) s callback.SelectCpu (task_cpu_and_0 t c) t c (steady_begun IsWaking waking_steady s.world callback.SelectCpu t c h);
  homed = λ s t c h. steady_homed IsWaking waking_steady s.world t c h;
  chosen = λ s t h. steady_before IsWaking waking_steady s.world (chosen_by_default s.world t) (same_chosen s.world t) h;
  asked = λ s t c h. steady_begun IsWaking waking_steady s.world callback.SelectCpu t c h;
  target = still_wake_target;
}

-- a task begins to be woken
waking : (s : State) (t : ℕ) → IsStill s.world → IsWaking (from_waker s t).world
unfolding from_waker
waking s t h = go (is_by_linux s) refl
  where
    w : WorldState
    w = with_waker s.world (Some (task_at s.world t).prev_cpu)

    go : (b : Bool) → is_by_linux s ≡ b → IsWaking (if b then with_world s w else s).world
    go true linux = (h.0, ap (λ (p : Passing). record p { waker = None }) h.1, tidy_linux w linux)
    go false plain = (h.0, ap (λ (p : Passing). record p { waker = None }) h.1, still_tidy s.world h)

still_wake : (s : State) (t : ℕ) → IsStill s.world → IsStill (wake s t).state.world
unfolding wake
still_wake s t h = let v = with_world s (after_wake s.world t) in walk_select (Stays IsWaking) Wakes (λ s. Unit {0}) waking_steps (from_waker v t) t tt (waking v t h)

-- that dispatch is to be told of a task, by Linux rules
tidy_told : (s : State) (t : ℕ) → IsTidy s.world → IsTidy (told_of_sleep s t).world
unfolding told_of_sleep
tidy_told s t h = go (is_by_linux s) refl
  where
    go : (b : Bool) → is_by_linux s ≡ b → IsTidy (if b then with_world s (with_slept s.world t) else s).world
    go true linux = tidy_linux (with_slept s.world t) linux
    go false plain = h

still_sleep : (s : State) (t : ℕ) → IsStill s.world → IsStill (sleep s t).state.world
unfolding sleep sleep_from_cpu sleep_from_queue looks_after_sleep
still_sleep s t h = go (cpu_of s.world t)
  where
    go : (o : Option ℕ) → IsStill (sleep_from o s t).state.world
    go None =
        let c = (task_at s.world t).prev_cpu in
        steady_falls_asleep IsStill still_steady (leaves_queue s t c 1).state t c (walk_leaves_queue (Stays IsStill) c (still_puts.calls c) s t 1 (steady_left IsStill still_steady t s) h)
    go (Some c) =
        let r = leaves_cpu s c t 0 in
        let q = falls_asleep r.state t c in
        cycle_ends (told_of_sleep q.state t) c None true (tidy_told q.state t (steady_falls_asleep IsTidy tidy_steady r.state t c ((honest_leaves_cpu s c t 0).tidy (still_tidy s.world h))))

still_use_up : (s : State) (c t : ℕ) → IsStill s.world → IsStill (use_up s c t).state.world
unfolding use_up throttle expire
still_use_up s c t h =
    let v = with_world s (used_ms s.world t) in
    let now = keeps_if IsStill (nat_lt t (length s.world.tasks)) (with_tree s.world (with_use s.world.tree t)) s.world h h in
    let r = leaves_cpu v c t 1 in
    let p = park r.state t in
    keeps_if (λ (r : Stepped). IsStill r.state.world) (is_throttled v.world t) (throttle v c t) (expire v c t) (cycle_ends p.state c None true ((honest_park r.state t).tidy ((honest_leaves_cpu v c t 1).tidy (still_tidy v.world now))))
    (keeps_if (λ (r : Stepped). IsStill r.state.world) (((task_at v.world t).slice == 0) && ends_slices v) (cycle v c (Some t) true) (stays v) (cycle_ends v c (Some t) true (still_tidy v.world now)) now)

still_tick : (s : State) (c : ℕ) → IsStill s.world → IsStill (tick s c).state.world
unfolding tick tick_idle count_down
still_tick s c h = go (running s.world c)
  where
    go : (o : Option ℕ) → IsStill (tick_of o s c).state.world
    go None = keeps_if (λ (r : Stepped). IsStill r.state.world) (is_by_linux s) (stays s) (cycle s c None false) h (cycle_ends s c None false (still_tidy s.world h))
    go (Some t) =
        let v = with_world s (after_tick s.world t) in
        still_use_up (tick_heard v c t).state c t (walk_heard (Stays IsStill) c (still_puts.calls c) v t h)

still_stalled : (o : Option ℕ) (s : State) → IsStill s.world → IsStill (eject_if_stalled o s).state.world
still_stalled None s h = h
still_stalled (Some t) s h = let x = cause.Stall t s.world.clock in kept_eject IsStill (steady_callbacks IsStill still_steady).ejecting s x (still_steady.out s.world x h)

-- a timer that runs
still_fires : (s : State) (j : ℕ) (a : Alarm) → is_by_linux s ≡ true → IsStill s.world → IsStill (fires (Some a) s j).state.world
still_fires s j a linux h =
    let v = with_world s (after_fire s.world j) in
    let x = walk_call_by_linux (Stays IsFiring) a.cpu ((steady_puts IsFiring firing_steady).calls a.cpu) v callback.Timer (one_number j) 0 refl (h.0, ap (λ (p : Passing). record p { timer = None }) h.1, tidy_linux v.world linux) in
    (x.0, x.1)

still_clock : (s : State) → IsStill s.world → IsStill (clock s).state.world
unfolding clock timers_and_watchdog watch
still_clock s h =
    let v = with_world s (begun_periods (later s.world)) in
    let r = (let_all_go v).state in
    let f = (fire_all r).state in
    let free = walk_let_all_go (Stays IsStill) (stays_walked IsStill) (λ u t. walk_let_go_one (Stays IsStill) (stays_walked IsStill) u t (λ x. x) (λ y c. walk_put (Stays IsStill) still_puts y t c 0) (steady_kicked IsStill still_steady)) v h in
    still_stalled (overdue f) f (walk_fire_all (Stays IsStill) (stays_walked IsStill) (λ u j a linux e. still_fires u j a linux) r free)

-- a task that has another weight
still_reweigh : (s : State) (t x : ℕ) → IsStill s.world → IsStill (reweigh s t x).state.world
unfolding reweigh reweigh_by_linux
still_reweigh s t x h = go (is_by_linux s) refl
  where
    v : State
    v = with_world s (with_waker s.world (Some 0))

    r : Stepped
    r = reweigh_at (cpu_of s.world t) v t x

    go : (b : Bool) → is_by_linux s ≡ b → IsStill (if b then record r { state = woken r.state } else stays (with_world s (after_own_weight s.world t x))).state.world
    go true linux = let y = steady_reweigh_at IsWaking waking_steady (cpu_of s.world t) v t x (h.0, ap (λ (p : Passing). record p { waker = None }) h.1, tidy_linux v.world linux) in (y.0, y.1)
    go false plain = steady_weighed IsStill still_steady t x s h

-- ---- rounds

still_look_past : (s : State) (c t : ℕ) → IsStill s.world → IsStill (look_past s c t).state.world
unfolding look_past
still_look_past s c t h = keeps_if (λ (r : Stepped). IsStill r.state.world) ((task_at s.world t).slice == 0) (cycle s c (Some t) true) (stays s) (cycle_ends s c (Some t) true (still_tidy s.world h)) h

still_round : (s : State) (c : ℕ) → IsStill s.world → IsStill (round s c).state.world
unfolding round
still_round s c h = go (running s.world c)
  where
    v : State
    v = with_world s (without_kick s.world c)

    cut : (b : Bool) (t : ℕ) → IsStill (look_past (cut_off_if b v t) c t).state.world
    cut false t = still_look_past v c t h
    cut true t = still_look_past (with_world v (after_cut_off v.world t)) c t h

    go : (o : Option ℕ) → IsStill (look_from o (is_in_set s.world.preempted c) v c).state.world
    go None = cycle_ends v c None false (still_tidy v.world h)
    go (Some t) = cut (is_in_set s.world.preempted c) t

-- after what an event does by itself
still_own : (s : State) (v : Event) → IsStill s.world → IsStill (own_step s v).state.world
still_own s (Wake t) h = still_wake s t h
still_own s (Sleep t) h = still_sleep s t h
still_own s (Tick c) h = still_tick s c h
still_own s Clock h = still_clock s h
still_own s (SetWeight g x) h = keeps_if IsStill (is_none (weight_fault s.world.tree g x)) (with_tree s.world (with_weight s.world.tree g x)) s.world h h
still_own s (SetTaskWeight t x) h = still_reweigh s t x h

-- after an event
pub still_step : (s : State) (v : Event) → IsStill s.world → IsStill (event_step s v).state.world
still_step s v h = walk_with_rounds (Stays IsStill) (stays_walked IsStill) (λ u c e. still_round u c) (Stays IsStill) (stays_walked IsStill).joined s (own_step s v) (still_own s v) h

-- and before the first
pub still_first : (p : PolicyState) (h : Hierarchy) (cpus : ℕ) (t : State) → first_state p h cpus ≡ Ok t → IsStill t.world
still_first p h cpus t e = keeps_started cpus (λ s. IsStill s.world) (λ s b a u c any still. kept_called IsStill (kept_query IsStill (steady_queries IsStill still_steady)) (acting s b) b a s.maps (at_callback s.world b u c) still) (λ s still. still) p h t e (keeps_homes IsStill (λ v u c l still. still) (begun_periods (by_policy p (first_world h cpus))) (refl, refl))

-- then the current task of each processor is the one that runs there
pub are_current : (w : WorldState) → w.passing ≡ nothing_passes → AreCurrent w
are_current w e c = ap (λ (p : Passing). current_in p.switching w c) e
