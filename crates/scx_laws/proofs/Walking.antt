-- One walk over the events of a machine by plain rules: what each small step of it keeps, each event keeps.
use Rattle.std.proofs.Common.{◌≡◌, ℕ, zero, suc, ◌<◌, ◌≤◌, Bool, true, false, ◌==◌, ◌&&◌, not, nat_le, if◌then◌else◌, [], ◌∷◌, List, length, Option, Some, None, refl, sym, subst, arith}
use Rattle.scx_dsq.specs.Queues.{queue_of, len_of, front_of}
use Rattle.scx_isa_semantics.specs.declared.callbacks.Callback.{Callback}
use Rattle.scx_isa_semantics.specs.declared.callbacks.Callback.TheVariants as callback
use Rattle.scx_vm.specs.declared.arguments.Args.{Args}
use Rattle.scx_sched_world.specs.declared.eject.Eject.TheVariants as cause
use Rattle.scx_sched_world.specs.Ids.{policy_end, global, builtin_queue, local_on}
use Rattle.scx_sched_world.specs.World.{WorldState, with_switch, task_at, is_throttled, running, cpu_of, is_idle, has_one_cpu}
use Rattle.scx_sched_world.specs.Tasks.{to_front, next_for, after_wake, after_sleep, after_leave, after_stop, started_at, after_keep, after_tick, used_ms, later, begun_periods, after_reweigh, after_own_weight}
use Rattle.scx_sched_world.specs.Ejecting.{after_charge, after_catch_up}
use Rattle.scx_sched_world.proofs.Fronts.{front_in}
use Rattle.scx_sched_machine.specs.declared.events.Event.{Event}
use Rattle.scx_sched_machine.specs.declared.events.Event.TheVariants.{Wake, Sleep, Tick, Clock, SetWeight, SetTaskWeight}
use Rattle.scx_sched_machine.specs.declared.events.Refused.{Refused}
use Rattle.scx_sched_machine.specs.Steps.{State, Stepped, with_world, stays, one_after_other, is_ejected, is_by_linux, kicked_if_idle}
use Rattle.scx_sched_machine.specs.Ejecting.{eject}
use Rattle.scx_sched_machine.specs.Callbacks.{acting, call_back, answered_by, noted_by, task_cpu_and_0, cpu_and_task}
use Rattle.scx_sched_machine.specs.Custody.{is_in_custody}
use Rattle.scx_sched_machine.specs.Put.{enters, put}
use Rattle.scx_sched_machine.specs.Filling.{fill}
use Rattle.scx_sched_machine.specs.Parking.{park, if_throttled, throttled_front, throttled_next, park_then, park_next, clear, in_reach, supply, let_all_go}
use Rattle.scx_sched_machine.specs.Cycle.{has_local, keeps_slice, supply_unless_kept, told_of, dispatch_called, after_dispatch, asks_again, tries, put_back, leave, switched, started_if, start as begin, kept, rest, swap, swap_or_rest, builtin_dispatch, builtin_fill, builtin_ask, builtin_cycle, start_or_cycle, picked, refilled, start_picked_or_cycle, makes_way, pick, pick_or_rest, keep_or_pick, conclude, give_up, ask, seek, look, cycling, cycle}
use Rattle.scx_sched_machine.specs.Events.{target, insert_or_put, woken, wake_target, comes_to, told_runnable, settle, ask_target, settle_at_home, select, wake, falls_asleep, looks_after_sleep, leaves_cpu, leaves_queue, sleep_from_cpu, sleep_from_queue, sleep_from, sleep, throttle, ends_slices, expire, use_up, count_down, tick_idle, tick_of, tick, overdue, eject_if_stalled, watch, timers_and_watchdog, clock, reweigh_by_linux, reweigh, own_step, event_step}
use Rattle.scx_sched_world.specs.World.{first_home}
use Rattle.scx_sched_machine.proofs.Choices.{keeps_if}
use Rattle.scx_sched.specs.Once.{IsSorted}
use Rattle.scx_sched.specs.Sim.{SimState, stepped_if, refusal, after_event}
use Rattle.scx_sched.proofs.Stepwise.{IsOfSwitch, IsSwitch, Silent, Called, by_stop, by_start}
use Rattle.scx_laws.specs.Runs.{after_events}
use Rattle.scx_laws.proofs.Plain.{homed_plain, switch_plain, asleep_plain, told_plain, dequeued_plain, heard_plain, busy_plain, switched_plain, picked_plain, kept_plain, give_up_plain, cycling_plain, concluded_plain, chosen_plain, waker_plain, slept_plain, timers_plain, rounds_plain}

-- between two events each task ran last on a processor that is there, and waits by a rank that its queue takes
pub record IsSettled (w : WorldState) : Type 0 where
  pub homes : (t : ℕ) → (task_at w t).prev_cpu < length w.cpus
  pub sorted : IsSorted w.queues

-- ---- what events keep

-- a task has woken, and select_cpu is asked for it
abbrev pub after_asking : State → ℕ → State
after_asking s t =
    let u = with_world s (after_wake s.world t) in
    let c = (task_at u.world t).prev_cpu in
    (call_back u callback.SelectCpu (task_cpu_and_0 t c) t c).state

-- what each small step keeps, by plain rules; those tasks may go to sleep
pub record IsKeptPlainly (MaySleep : ℕ → Type 0) (I : State → Type 0) : Type 0 where
  pub plain : (s : State) → I s → is_by_linux s ≡ false
  pub filled : (s : State) (q c : ℕ) → policy_end ≤ q → I s → I (fill s q c).state
  pub left : (s : State) (q t : ℕ) → policy_end ≤ q → queue_of s.world.queues t ≡ Some q → I s → I (with_world s (after_leave s.world t))
  pub removed : (s : State) (t : ℕ) → MaySleep t → I s → I (with_world s (after_leave s.world t))
  pub parked : (s : State) (t : ℕ) → I s → I (park s t).state
  pub dispatched : (s : State) (a : Args) (c : ℕ) → I s → I (call_back s callback.Dispatch a 0 c).state
  pub told : (s : State) (b : Callback) (a : Args) (t c : ℕ) → IsOfSwitch b → I s → I (call_back s b a t c).state
  pub charged : (s : State) (t : ℕ) → I s → I (with_world s (after_charge s.world t))
  pub caught_up : (s : State) (t : ℕ) → I s → I (with_world s (after_catch_up s.world t))
  pub stopped : (s : State) (c t : ℕ) → I s → I (with_world s (after_stop s.world c t))
  pub started : (s : State) (c t : ℕ) → front_of s.world.queues (local_on c) ≡ Some t → I s → I (with_world s (started_at (Some t) s.world c))
  pub puts : (s : State) (t c flags : ℕ) → nat_le flags 1 ≡ true → I s → I (put s t c flags).state
  pub kept : (s : State) (o : Option ℕ) → I s → I (with_world s (after_keep s.world o))
  pub cycles : (s : State) (o : Option ℕ) → I s → I (with_world s (record s.world { cycling = o }))
  pub woken : (s : State) (t : ℕ) → I s → I (with_world s (after_wake s.world t))
  -- select_cpu is asked for a task that wakes, and then the task comes to wait as for that processor
  pub asked : (s : State) (t d : ℕ) → IsSettled s.world → I s → let r = after_asking s t in (is_by_linux r ≡ false) × I (insert_or_put r.world.call.insert r t d).state
  pub asleep : (s : State) (t : ℕ) → I s → I (with_world s (after_sleep s.world t))
  pub ticked : (s : State) (t : ℕ) → I s → I (with_world s (after_tick s.world t))
  pub used : (s : State) (t : ℕ) → I s → I (with_world s (used_ms s.world t))
  pub later : (s : State) → I s → I (with_world s (begun_periods (later s.world)))
  pub lets_go : (s : State) → I s → I (let_all_go s).state
  pub stalled : (s : State) (t : ℕ) → I s → I (eject s (cause.Stall t s.world.clock)).state
  pub reweighed : (s : State) (g x : ℕ) → I s → I (with_world s (after_reweigh s.world g x))
  pub weighed : (s : State) (t x : ℕ) → I s → I (with_world s (after_own_weight s.world t x))

-- the event puts none of the others to sleep
abbrev pub MayHappen : (ℕ → Type 0) → Event → Type 0
MayHappen MaySleep (Sleep t) = MaySleep t
MayHappen MaySleep e = Unit {0}

-- nor does any of these
abbrev pub AllMay : (ℕ → Type 0) → List Event → Type 0
AllMay MaySleep [] = Unit {0}
AllMay MaySleep (e ∷ es) = MayHappen MaySleep e × AllMay MaySleep es

-- a throttled one is that one
is_front : (w : WorldState) (o : Option ℕ) (t : ℕ) → if_throttled w o ≡ Some t → o ≡ Some t
is_front w None t e = absurd (cc)
is_front w (Some u) t e = go (is_throttled w u) e
  where
    go : (b : Bool) → (if b then Some u else None) ≡ Some t → Some u ≡ Some t
    go true x = x
    go false x = absurd (cc)

module _ (MaySleep : ℕ → Type 0) (I : State → Type 0) (k : IsKeptPlainly MaySleep I) (seen : (w : WorldState) (q c t : ℕ) → next_for w q c ≡ Some t → queue_of w.queues t ≡ Some q) where
  abbrev Leaves : Stepped → Type 0
  Leaves r = I r.state

  -- from a state that is another one
  from_same : (s v : State) → v ≡ s → I s → I v
  from_same s v e h = subst I (sym e) h

  -- ---- local queues

  walk_park_left : (s : State) (q t : ℕ) → policy_end ≤ q → queue_of s.world.queues t ≡ Some q → I s → Leaves (park (with_world s (after_leave s.world t)) t)
  walk_park_left s q t own there h = k.parked (with_world s (after_leave s.world t)) t (k.left s q t own there h)

  walk_park_then : (next : State → Stepped) → ((r : State) → I r → Leaves (next r)) → (s : State) (q : ℕ) (o : Option ℕ) → policy_end ≤ q → ((t : ℕ) → o ≡ Some t → queue_of s.world.queues t ≡ Some q) → I s → Leaves (park_then next s o)
  walk_park_then next more s q None own there h = h
  walk_park_then next more s q (Some t) own there h = more (park (with_world s (after_leave s.world t)) t).state (walk_park_left s q t own (there t refl) h)

  walk_park_next : (j : ℕ) (s : State) (q c : ℕ) → policy_end ≤ q → I s → Leaves (park_next j s q c)
  unfolding park_next
  walk_park_next zero s q c own h = h
  walk_park_next (suc j) s q c own h = walk_park_then (λ r. park_next j r q c) (λ r x. walk_park_next j r q c own x) s q (throttled_next s q c) own (λ t e. seen s.world q c t (is_front s.world (next_for s.world q c) t e)) h

  walk_clear : (j : ℕ) (s : State) (c : ℕ) → I s → Leaves (clear j s c)
  unfolding clear
  walk_clear zero s c h = h
  walk_clear (suc j) s c h =
      let f = (fill s global c).state in
      walk_park_then (λ r. clear j r c) (λ r x. walk_clear j r c x) f (local_on c) (throttled_front f (local_on c)) (omega arith) (λ t e. front_in f.world.queues (local_on c) t (is_front f.world (front_of f.world.queues (local_on c)) t e)) (k.filled s global c (omega arith) h)

  walk_supply : (s : State) (c : ℕ) → I s → Leaves (supply s c)
  unfolding supply
  walk_supply s c h = walk_clear (in_reach s c) s c h

  walk_dispatch_called : (s : State) (c : ℕ) (p : Option ℕ) → I s → Leaves (dispatch_called s c p)
  unfolding dispatch_called
  walk_dispatch_called s c p h =
      let r = (call_back s callback.Dispatch (cpu_and_task c (told_of s p)) 0 c).state in
      let x = k.dispatched s (cpu_and_task c (told_of s p)) c h in
      subst Leaves (sym (told_plain r (k.plain r x) c (noted_by s callback.Dispatch (cpu_and_task c (told_of s p)) 0 c))) x

  walk_dispatched : (s : State) (c : ℕ) (p : Option ℕ) → I s → Leaves (after_dispatch s c p)
  unfolding after_dispatch supply_unless_kept
  walk_dispatched s c p h =
      let r = (dispatch_called s c p).state in
      let x = walk_dispatch_called s c p h in
      keeps_if Leaves (keeps_slice r p) (stays r) (supply r c) x (walk_supply r c x)

  walk_tries : (j : ℕ) (s : State) (c : ℕ) (p : Option ℕ) → I s → Leaves (tries j s c p)
  unfolding tries
  walk_tries zero s c p h = h
  walk_tries (suc j) s c p h =
      let d = after_dispatch s c p in
      let x = walk_dispatched s c p h in
      keeps_if Leaves (asks_again d.state c p) (one_after_other d (tries j d.state c p)) d (walk_tries j d.state c p x) x

  -- ---- on and off a processor

  walk_switch : (s : State) (t c : ℕ) (out : WorldState) → I (with_world s out) → I s → (r : Stepped) → IsSwitch s t c out r → Leaves r
  walk_switch s t c out silent h _ (Silent e) = silent
  walk_switch s t c out silent h _ (Called b a force is) = k.told s b a t c is h

  walk_put_back : (s : State) (c t : ℕ) → I s → Leaves (put_back s c t)
  unfolding put_back
  walk_put_back s c t h = subst (λ b. Leaves (if b then enters s t (to_front c) else put s t c 0)) (sym (kept_plain s (k.plain s h) (Some t))) (k.puts s t c 0 refl h)

  walk_leave : (s : State) (c : ℕ) (p : Option ℕ) → I s → Leaves (leave s c p)
  unfolding leave
  walk_leave s c None h = h
  walk_leave s c (Some t) h =
      let off = with_world s (after_stop s.world c t) in
      let x = k.stopped s c t h in
      by_stop (λ (r : Stepped). Leaves (put_back r.state c t)) off c t 1 (λ r is. walk_put_back r.state c t (walk_switch off t c (after_charge off.world t) (k.charged off t x) x r is))

  walk_begin : (s : State) (c : ℕ) → I s → Leaves (begin s c)
  unfolding begin
  walk_begin s c h = go (front_of s.world.queues (local_on c)) refl
    where
      go : (o : Option ℕ) → front_of s.world.queues (local_on c) ≡ o → Leaves (started_if o s c)
      go None e = h
      go (Some t) e =
          let u = with_world s (started_at (Some t) s.world c) in
          let v = switched u t in
          let x = from_same u v (switched_plain u (k.plain u (k.started s c t e h)) t) (k.started s c t e h) in
          by_start Leaves v c t (walk_switch v t c (after_catch_up v.world t) (k.caught_up v t x) x)

  walk_rest : (s : State) (c : ℕ) (p : Option ℕ) (ran : Bool) → I s → Leaves (rest s c p ran)
  unfolding rest
  walk_rest s c None ran h = k.kept s None h
  walk_rest s c (Some t) ran h =
      let u = with_world s (after_keep s.world (Some t)) in
      let x = k.kept s (Some t) h in
      from_same u (switched u t) (switched_plain u (k.plain u x) t) x

  -- ---- the built-in scheduler

  walk_swap_or_rest : (s : State) (c : ℕ) (p : Option ℕ) (ran : Bool) → I s → Leaves (swap_or_rest s c p ran)
  unfolding swap_or_rest swap
  walk_swap_or_rest s c p ran h = keeps_if Leaves (has_local s c) (swap s c p) (rest s c p ran) (walk_begin (leave s c p).state c (walk_leave s c p h)) (walk_rest s c p ran h)

  walk_builtin_fill : (s : State) (c : ℕ) → I s → Leaves (builtin_fill s c)
  unfolding builtin_fill builtin_dispatch
  walk_builtin_fill s c h =
      let n = len_of s.world.queues builtin_queue in
      let p = park_next n s builtin_queue c in
      keeps_if Leaves (has_local s c) (stays s) (one_after_other p (fill p.state builtin_queue c)) h (k.filled p.state builtin_queue c (omega arith) (walk_park_next n s builtin_queue c (omega arith) h))

  walk_builtin_cycle : (s : State) (c : ℕ) (p : Option ℕ) (ran : Bool) → I s → Leaves (builtin_cycle s c p ran)
  unfolding builtin_cycle builtin_ask
  walk_builtin_cycle s c p ran h =
      let f = (supply s c).state in
      walk_swap_or_rest (builtin_fill f c).state c p ran (walk_builtin_fill f c (walk_supply s c h))

  -- ---- a cycle of the policy

  walk_begin_or_cycle : (s : State) (c : ℕ) (ran : Bool) → I s → Leaves (start_or_cycle s c ran)
  unfolding start_or_cycle
  walk_begin_or_cycle s c ran h = keeps_if Leaves (has_local s c) (begin s c) (builtin_cycle s c None ran) (walk_begin s c h) (walk_builtin_cycle s c None ran h)

  walk_makes_way : (s : State) (c : ℕ) (p : Option ℕ) (ran : Bool) → I s → Leaves (makes_way s c p ran)
  unfolding makes_way
  walk_makes_way s c p ran h = subst (λ (b : Stepped). Leaves (leave b.state c p)) (sym (busy_plain s (k.plain s h) c p ran)) (walk_leave s c p h)

  walk_pick : (s : State) (c : ℕ) (p : Option ℕ) (ran : Bool) → I s → Leaves (pick s c p ran)
  unfolding pick
  walk_pick s c p ran h = go (picked s c) (picked_plain s (k.plain s h) c)
    where
      go : (o : Option ℕ) → o ≡ None → Leaves (start_picked_or_cycle o (makes_way (refilled s o) c p ran).state c ran)
      go None e = walk_begin_or_cycle (makes_way s c p ran).state c ran (walk_makes_way s c p ran h)
      go (Some t) e = absurd (cc)

  walk_conclude : (s : State) (c : ℕ) (p : Option ℕ) (ran : Bool) → I s → Leaves (conclude s c p ran)
  unfolding conclude keep_or_pick pick_or_rest
  walk_conclude s c p ran h =
      let picks = keeps_if Leaves (has_local s c) (pick s c p ran) (rest s c p ran) (walk_pick s c p ran h) (walk_rest s c p ran h) in
      keeps_if Leaves (is_ejected s) (builtin_cycle s c p ran) (keep_or_pick s c p ran) (walk_builtin_cycle s c p ran h)
      (subst (λ b. Leaves (if b then stays (kept s p) else pick_or_rest s c p ran)) (sym (kept_plain s (k.plain s h) p)) picks)

  walk_ask : (s : State) (c : ℕ) (p : Option ℕ) (ran : Bool) → I s → Leaves (ask s c p ran)
  unfolding ask
  walk_ask s c p ran h =
      let d = (tries 32 s c p).state in
      let x = walk_tries 32 s c p h in
      walk_conclude (give_up d c p) c p ran (from_same d (give_up d c p) (give_up_plain d (k.plain d x) c p) x)

  walk_look : (s : State) (c : ℕ) (p : Option ℕ) (ran : Bool) → I s → Leaves (look s c p ran)
  unfolding look seek
  walk_look s c p ran h =
      let f = (supply s c).state in
      let x = walk_supply s c h in
      keeps_if Leaves (is_ejected s) (builtin_cycle s c p ran) (seek s c p ran) (walk_builtin_cycle s c p ran h) (keeps_if Leaves (has_local f c) (pick f c p ran) (ask f c p ran) (walk_pick f c p ran x) (walk_ask f c p ran x))

  walk_cycling : (s : State) (o : Option ℕ) → I s → I (cycling s o)
  walk_cycling s o h = from_same (with_world s (record s.world { cycling = o })) (cycling s o) (cycling_plain s (k.plain s h) o) (k.cycles s o h)

  walk_cycle : (s : State) (c : ℕ) (p : Option ℕ) (ran : Bool) → I s → Leaves (cycle s c p ran)
  unfolding cycle
  walk_cycle s c p ran h =
      let r = (look (cycling s (Some c)) c p ran).state in
      let x = walk_look (cycling s (Some c)) c p ran (walk_cycling s (Some c) h) in
      subst Leaves (sym (concluded_plain r (k.plain r x) c ran)) (walk_cycling r None x)

  -- ---- a task wakes

  walk_target : (s : State) (c : ℕ) → I s → Leaves (wake_target s c)
  unfolding wake_target
  walk_target s c h = subst (λ b. Leaves (if b then stays (kicked_if_idle (woken s) c) else (if is_idle s.world c then cycle s c None false else stays s))) (sym (k.plain s h)) (keeps_if Leaves (is_idle s.world c) (cycle s c None false) (stays s) (walk_cycle s c None false h) h)

  walk_settle : (s : State) (t c : ℕ) → is_by_linux s ≡ false → Leaves (insert_or_put s.world.call.insert s t c) → Leaves (settle s t c)
  unfolding settle comes_to
  walk_settle s t c plain h = subst (λ (w : WorldState). Leaves (from w)) (sym (homed_plain s.world plain t c)) (subst (λ b. Leaves (if b then told_runnable s.world.call.insert s t c else comes_to s.world.call.insert s t c)) (sym plain) (walk_target (insert_or_put s.world.call.insert s t c).state c h))
    where
      from : WorldState → Stepped
      from w = if is_by_linux (with_world s w) then told_runnable w.call.insert (with_world s w) t c else comes_to w.call.insert (with_world s w) t c

  walk_ask_target : (s : State) (t : ℕ) → IsSettled s.world → I s → Leaves (ask_target (with_world s (after_wake s.world t)) t)
  unfolding ask_target
  walk_ask_target s t settled h =
      let u = with_world s (after_wake s.world t) in
      let c = (task_at u.world t).prev_cpu in
      let a = task_cpu_and_0 t c in
      let r = (call_back u callback.SelectCpu a t c).state in
      let p = acting r callback.SelectCpu in
      let d = target p r.world t (answered_by u callback.SelectCpu a t c) in
      let x = k.asked s t d settled h in
      subst (λ (v : State). Leaves (settle v t d)) (sym (chosen_plain r x.0 p t)) (walk_settle r t d x.0 x.1)

  walk_wake : (s : State) (t : ℕ) → IsSettled s.world → I s → Leaves (wake s t)
  unfolding wake select
  walk_wake s t settled h =
      let u = with_world s (after_wake s.world t) in
      let plain = k.plain u (k.woken s t h) in
      subst (λ (v : State). Leaves (select v t)) (sym (waker_plain u plain t)) (subst (λ b. Leaves (if not (b && has_one_cpu u.world t) then ask_target u t else settle_at_home u t (first_home u.world t))) (sym plain) (walk_ask_target s t settled h))

  -- ---- a task goes to sleep

  walk_falls_asleep : (s : State) (t c : ℕ) → I s → Leaves (falls_asleep s t c)
  walk_falls_asleep s t c h = let x = k.asleep s t h in subst Leaves (sym (asleep_plain s t (k.plain (with_world s (after_sleep s.world t)) x) c)) x

  walk_leaves_cpu : (s : State) (c t n : ℕ) → I s → Leaves (leaves_cpu s c t n)
  unfolding leaves_cpu
  walk_leaves_cpu s c t n h =
      let w = with_switch s.world c in
      let off = with_world s (after_stop w c t) in
      let x = subst (λ (v : WorldState). I (with_world s (after_stop v c t))) (sym (switch_plain s.world (k.plain s h) c)) (k.stopped s c t h) in
      by_stop Leaves off c t n (walk_switch off t c (after_charge off.world t) (k.charged off t x) x)

  walk_sleep_from_cpu : (s : State) (t c : ℕ) → I s → Leaves (sleep_from_cpu s t c)
  unfolding sleep_from_cpu looks_after_sleep
  walk_sleep_from_cpu s t c h =
      let r = (leaves_cpu s c t 0).state in
      let q = (falls_asleep r t c).state in
      let x = walk_falls_asleep r t c (walk_leaves_cpu s c t 0 h) in
      subst (λ (v : State). Leaves (cycle v c None true)) (sym (slept_plain q (k.plain q x) t)) (walk_cycle q c None true x)

  walk_sleep_from_queue : (s : State) (t c : ℕ) → MaySleep t → I s → Leaves (sleep_from_queue s t c)
  unfolding sleep_from_queue leaves_queue
  walk_sleep_from_queue s t c may h =
      let u = with_world s (after_leave s.world t) in
      let x = k.removed s t may h in
      subst (λ (v : State). Leaves (falls_asleep v t c)) (sym (dequeued_plain u (k.plain u x) (is_in_custody s.world t) t c 1)) (walk_falls_asleep u t c x)

  walk_sleep_from : (o : Option ℕ) (s : State) (t : ℕ) → MaySleep t → I s → Leaves (sleep_from o s t)
  walk_sleep_from None s t may h = walk_sleep_from_queue s t (task_at s.world t).prev_cpu may h
  walk_sleep_from (Some c) s t may h = walk_sleep_from_cpu s t c h

  walk_sleep : (s : State) (t : ℕ) → MaySleep t → I s → Leaves (sleep s t)
  unfolding sleep
  walk_sleep s t may h = walk_sleep_from (cpu_of s.world t) s t may h

  -- ---- a tick

  walk_use_up : (s : State) (c t : ℕ) → I s → Leaves (use_up s c t)
  unfolding use_up throttle expire
  walk_use_up s c t h =
      let u = with_world s (used_ms s.world t) in
      let x = k.used s t h in
      let r = (leaves_cpu u c t 1).state in
      keeps_if Leaves (is_throttled u.world t) (throttle u c t) (expire u c t) (walk_cycle (park r t).state c None true (k.parked r t (walk_leaves_cpu u c t 1 x)))
      (keeps_if Leaves (((task_at u.world t).slice == 0) && ends_slices u) (cycle u c (Some t) true) (stays u) (walk_cycle u c (Some t) true x) x)

  walk_tick : (s : State) (c : ℕ) → I s → Leaves (tick s c)
  unfolding tick tick_idle count_down
  walk_tick s c h = go (running s.world c)
    where
      go : (o : Option ℕ) → Leaves (tick_of o s c)
      go None = keeps_if Leaves (is_by_linux s) (stays s) (cycle s c None false) h (walk_cycle s c None false h)
      go (Some t) =
          let u = with_world s (after_tick s.world t) in
          let x = k.ticked s t h in
          subst (λ (r : Stepped). Leaves (use_up r.state c t)) (sym (heard_plain u (k.plain u x) c t)) (walk_use_up u c t x)

  -- ---- the clock

  walk_stalled : (o : Option ℕ) (s : State) → I s → Leaves (eject_if_stalled o s)
  walk_stalled None s h = h
  walk_stalled (Some t) s h = k.stalled s t h

  walk_clock : (s : State) → I s → Leaves (clock s)
  unfolding clock timers_and_watchdog watch
  walk_clock s h =
      let r = (let_all_go (with_world s (begun_periods (later s.world)))).state in
      let x = k.lets_go (with_world s (begun_periods (later s.world))) (k.later s h) in
      subst (λ (v : State). Leaves (eject_if_stalled (overdue v) v)) (sym (timers_plain r (k.plain r x))) (walk_stalled (overdue r) r x)

  -- ---- all events

  walk_reweigh : (s : State) (t x : ℕ) → I s → Leaves (reweigh s t x)
  unfolding reweigh
  walk_reweigh s t x h = subst (λ b. Leaves (if b then reweigh_by_linux s t x else stays (with_world s (after_own_weight s.world t x)))) (sym (k.plain s h)) (k.weighed s t x h)

  walk_own : (s : State) (e : Event) → MayHappen MaySleep e → IsSettled s.world → I s → Leaves (own_step s e)
  walk_own s (Wake t) may settled h = walk_wake s t settled h
  walk_own s (Sleep t) may settled h = walk_sleep s t may h
  walk_own s (Tick c) may settled h = walk_tick s c h
  walk_own s Clock may settled h = walk_clock s h
  walk_own s (SetWeight g x) may settled h = k.reweighed s g x h
  walk_own s (SetTaskWeight t x) may settled h = walk_reweigh s t x h

  walk_event : (s : State) (e : Event) → MayHappen MaySleep e → IsSettled s.world → I s → Leaves (event_step s e)
  walk_event s e may settled h = let x = walk_own s e may settled h in subst Leaves (sym (rounds_plain (own_step s e) (k.plain (own_step s e).state x))) x

  -- an event keeps it, whether it is accepted or not
  walk_after : (s : SimState) (e : Event) → MayHappen MaySleep e → IsSettled s.state.world → I s.state → I (after_event s e).state
  walk_after s e may settled h = go (refusal s e)
    where
      go : (o : Option Refused) → I (stepped_if o s e).state
      go None = walk_event s.state e may settled h
      go (Some r) = h

  -- and so do several, in a machine that is settled between any two of them
  pub walk_all : (F : SimState → Type 0) → ((s : SimState) → F s → IsSettled s.state.world) → ((s : SimState) (e : Event) → F s → F (after_event s e)) → (s : SimState) (events : List Event) → AllMay MaySleep events → F s → I s.state → I (after_events s events).state
  walk_all F settles next s [] may f h = h
  walk_all F settles next s (e ∷ es) may f h = walk_all F settles next (after_event s e) es may.1 (next s e f) (walk_after s e may.0 (settles s f) h)
