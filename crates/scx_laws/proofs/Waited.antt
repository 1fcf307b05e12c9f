-- One processor and a policy of one line: in a list of events in which each millisecond has a tick and a clock, no task
-- waits longer than the others' slices.
use Rattle.std.proofs.Common.{◌≡◌, ℕ, ◌+◌, ◌-◌, ◌*◌, ◌<◌, ◌≤◌, Bool, true, false, ◌==◌, ◌&&◌, ◌||◌, not, max, ◌⊎◌, inl, inr, if◌then◌else◌, List, [], ◌∷◌, length, set, get_or, replicate, position, Option, Some, None, is_some, is_none, option_map, Ok, refl, sym, ap, ◌∙◌, subst, arith, nat_lt}
use Rattle.scx_laws.proofs.Waiting.{in_time_of}
use Rattle.std.proofs.lemmas.Option.{same_Some}
use Rattle.std.proofs.lemmas.Bool.{cases_lt, lt-ltb, eq-eqb, ne_eqb, and_right, or_right, or_parts}
use Rattle.std.proofs.lemmas.List.{get_or-set_same, get_or-set_other, get_or_past, get_or_default}
use Rattle.std.proofs.lemmas.List.Quantifiers.{position-Some}
use Rattle.std.proofs.lemmas.List.Sums.{sum_by-cons}
use Rattle.scx_dsq.specs.declared.entries.Entry.{Entry}
use Rattle.scx_dsq.specs.declared.entries.Rank.TheVariants.{Fifo}
use Rattle.scx_dsq.specs.Laws.{one_if, standing}
use Rattle.scx_dsq.specs.Queues.{QueueState, exists, entry_of, is_in, len_of, front_of}
use Rattle.scx_dsq.specs.Calls.{without_task, after_push, after_remove}
use Rattle.scx_dsq.proofs.Facts.{ids_pushed, ids_removed}
use Rattle.scx_dsq.proofs.Positions.{no_position}
use Rattle.scx_isa_semantics.specs.declared.callbacks.Callback.TheVariants as callback
use Rattle.scx_vm.specs.Programs.{VerifiedProgram}
use Rattle.scx_weights.specs.Hierarchy.{Hierarchy, is_active_task, with_weight, with_own_weight}
use Rattle.scx_weights.specs.Counting.{any_below}
use Rattle.scx_weights.specs.Limits as limits
use Rattle.scx_weights.specs.Limits.{has_quota}
use Rattle.scx_weights.specs.Refusals.{weight_fault, own_weight_fault}
use Rattle.scx_weights.proofs.Counting.{none_below_at}
use Rattle.scx_weights.proofs.KnownLimits.{none_throttled}
use Rattle.scx_sched_tasks.specs.declared.task.Task.{Task}
use Rattle.scx_sched_tasks.specs.Tasks.{no_task, default_slice}
use Rattle.scx_sched_tasks.specs.Waits.{time_since, is_overdue}
use Rattle.scx_sched_world.specs.declared.eject.Eject.{Eject}
use Rattle.scx_sched_world.specs.First.{first_world}
use Rattle.scx_sched_world.specs.Ids.{parked_queue, local_on}
use Rattle.scx_sched_world.specs.World as world
use Rattle.scx_sched_world.specs.World.{WorldState, task_at, is_this, is_runnable, is_throttled, is_idle, waits, wait, running, cpu_of, first_home, has_one_cpu, default_choice, at_callback, quiet, with_tree, with_switch}
use Rattle.scx_sched_world.specs.Tasks.{with_since, tick_ns, counted_down, ran_a_tick, after_wake, after_sleep, after_leave, after_stop, after_enter, after_tick, used_ms, later, begun_periods, after_reweigh, after_own_weight}
use Rattle.scx_sched_world.specs.Ejecting.{after_charge}
use Rattle.scx_sched_world.specs.Waits.{first_overdue}
use Rattle.scx_sched_world.specs.Helpers.{with_insert}
use Rattle.scx_sched_machine.specs.declared.events.Event.{Event}
use Rattle.scx_sched_machine.specs.declared.events.Event.TheVariants.{Wake, Sleep, Tick, Clock, SetWeight, SetTaskWeight}
use Rattle.scx_sched_machine.specs.declared.events.Refused.{Refused}
use Rattle.scx_sched_machine.specs.declared.events.Refused.TheVariants.{RunOver, UnknownCpu}
use Rattle.scx_sched_policy.specs.Policy.{PolicyState, program_of}
use Rattle.scx_sched_machine.specs.Start.{is_bad_shape, is_nowhere, by_policy, first_state}
use Rattle.scx_sched_machine.specs.Steps.{State, Stepped, with_world, stays, is_by_linux, kicked_if_idle}
use Rattle.scx_sched_machine.specs.Callbacks.{acting, call_back, answered_by, task_cpu_and_0}
use Rattle.scx_sched_machine.specs.Custody.{is_in_custody}
use Rattle.scx_sched_machine.specs.Put.{put}
use Rattle.scx_sched_machine.specs.Parking.{let_go_from, let_all_go}
use Rattle.scx_sched_machine.specs.Cycle.{cycle}
use Rattle.scx_sched_machine.specs.Events as machine
use Rattle.scx_sched_machine.specs.Events.{target, woken, wake_target, comes_to, told_runnable, settle, chosen, ask_target, settle_at_home, select, wake, falls_asleep, looks_after_sleep, leaves_cpu, leaves_queue, sleep_from_cpu, sleep_from_queue, sleep_from, sleep, throttle, ends_slices, expire, use_up, count_down, tick_idle, tick_of, tick, is_tick_time, overdue, eject_if_stalled, watch, timers_and_watchdog, clock, reweigh_by_linux, reweigh, own_step, event_step}
use Rattle.scx_sched_machine.proofs.Choices.{keeps_if}
use Rattle.scx_sched.specs.Once.{runs}
use Rattle.scx_sched.specs.Ranges.{IsFine}
use Rattle.scx_sched.specs.Waits.{HasWaits}
use Rattle.scx_sched.specs.Sim.{SimState, max_events, refusal, stepped_if, after_event}
use Rattle.scx_sched.proofs.Begins.{keeps_started}
use Rattle.scx_sched.proofs.Deciding.{accepted}
use Rattle.scx_sched.proofs.Events.{is_task, IsTaken, Wakes, Sleeps, Ticks, Clocks, Weighs, WeighsTask, is_taken}
use Rattle.scx_sched.proofs.First.{fine_started, policy_started, force_started}
use Rattle.scx_sched.proofs.Homes.{keeps_homes}
use Rattle.scx_sched.proofs.Unchanged.{same_called}
use Rattle.scx_laws.specs.Runs.{IsBegun, after_events}
use Rattle.scx_laws.specs.Bounds.{ticks_of, longest_wait, HasTicks, HasTickAndClock, IsPatientLine, WaitsAtMost, StaysInForce}
use Rattle.scx_laws.proofs.Sound.{IsFirm, firm_first, firm_step, firm_after}
use Rattle.scx_laws.proofs.Plain.{homed_plain, switch_plain, asleep_plain, dequeued_plain, heard_plain, chosen_plain, waker_plain, slept_plain, timers_plain, rounds_plain}
use Rattle.scx_laws.proofs.Choosing.{chosen_there}
use Rattle.scx_sched.proofs.Stepwise.{IsSwitch, by_stop}
use Rattle.scx_laws.proofs.InLine.{IsInLine, IsKeptInLine, line_end, world_plain, acts_not, nothing_called, zero_there, line_at, put_lined, keeps_line}
use Rattle.scx_laws.proofs.Beginning.{line_begins}
use Rattle.scx_laws.proofs.Leaving.{free_first, free_after}
use Rattle.scx_laws.proofs.Overtaking.{known_there}
use Rattle.scx_laws.proofs.Counting.{ahead_in}
use Rattle.scx_laws.proofs.Bounding.{IsBounded, left_of, bounded_so, bounded_left, bounded_later, bounded_unseen, bounded_ran, len_left}
use Rattle.scx_laws.proofs.Turning.{IsTurning, turning_put}
use Rattle.scx_laws.proofs.Cycled.{positive, nonzero, none_pass, no_entry, len_other, still_there, empty_other, IsGoing, IsAtWork, IsBetween, going_in, plain_going, off_cpu, off_idle, going_off, off_is, cycle_works}

-- ---- with another bound

-- that is greater
turning_more : (slice n m j : ℕ) (w : WorldState) → m ≤ j → IsTurning slice n m w → IsTurning slice n j w
turning_more slice n m j w l h = record { force = h.force; one = h.one; bounded = bounded_so slice n m w.clock w.tasks (running w 0) w.queues j w.clock w.tasks refl h.bounded.slices h.bounded.most (λ t e is here. omega (arith, h.bounded.bound t e is here, l)) h.bounded }

-- or any, if the line is empty
turning_empty : (slice n m j : ℕ) (w : WorldState) → len_of w.queues 0 ≡ 0 → IsTurning slice n m w → IsTurning slice n j w
turning_empty slice n m j w none h = record { force = h.force; one = h.one; bounded = bounded_so slice n m w.clock w.tasks (running w 0) w.queues j w.clock w.tasks refl h.bounded.slices h.bounded.most (λ t e is here. absurd (no_entry w.queues 0 t e none is here)) h.bounded }

going_more : (slice n m j : ℕ) (s : State) → m ≤ j → IsGoing slice n m s → IsGoing slice n j s
going_more slice n m j s l h = going_in slice n j m s s.world h.lined.1 (turning_more slice n m j s.world l h.turning) h.free h.own h

between_more : (slice n m j : ℕ) (s : State) → m ≤ j → IsBetween slice n m s → IsBetween slice n j s
between_more slice n m j s l h = (record { going = going_more slice n m j s l h.0.going; none = h.0.none; busy = h.0.busy; idle = h.0.idle }, h.1)

-- ---- how long a task waits

-- of the sum of three
less_by_one : (a b c l : ℕ) → a + (b + c) ≤ l + 1 → 0 < c → a ≤ l
less_by_one a b c l h some = omega (arith, h, some)

some_ticks : (k : ℕ) → 0 < k → 0 < ticks_of k
some_ticks k l = omega (arith, l)

module _ (slice n l : ℕ) where
  -- each task has a turn before
  waits_no_longer : (s : State) → HasWaits None s.world → IsAtWork slice n (l + 1) s → (t : ℕ) → wait s.world t ≤ l
  waits_no_longer s has h t = go (task_at s.world t).since refl
    where
      w : WorldState
      w = s.world

      by_runner : (e : Entry) → entry_of w.queues t ≡ Some e → e.queue ≡ 0 → (o : Option ℕ) → running w 0 ≡ o → time_since w.clock (task_at w t).since ≤ l
      by_runner e is here None runs = absurd (no_entry w.queues 0 t e (h.idle runs) is here)
      by_runner e is here (Some r) runs =
          less_by_one (time_since w.clock (task_at w t).since) (ticks_of slice * (ahead_in w.queues e + len_of w.queues (local_on 0))) (ticks_of (task_at w r).slice) l
          (subst (λ o. time_since w.clock (task_at w t).since + (ticks_of slice * (ahead_in w.queues e + len_of w.queues (local_on 0)) + left_of w.tasks o) ≤ l + 1) runs (h.going.turning.bounded.bound t e is here))
          (some_ticks (task_at w r).slice (h.busy r runs))

      by_place : (e : Entry) → entry_of w.queues t ≡ Some e → (e.queue ≡ 0) ⊎ (e.queue ≡ local_on 0) → time_since w.clock (task_at w t).since ≤ l
      by_place e is (inl here) = by_runner e is here (running w 0) refl
      by_place e is (inr here) = absurd (no_entry w.queues (local_on 0) t e h.none is here)

      or_not : (b : Bool) → (b || false) ≡ true → b ≡ true
      or_not true x = refl
      or_not false x = absurd (cc)

      by_entry : (o : Option Entry) → entry_of w.queues t ≡ o → waits w t ≡ true → time_since w.clock (task_at w t).since ≤ l
      by_entry None is y = let bad : false ≡ true = sym (ap (λ (o : Option Entry). world.waits_in (option_map (λ (p : Entry). p.queue) o)) is) ∙ y in absurd (cc)
      by_entry (Some e) is y = by_place e is (h.going.turning.bounded.here t e is)

      go : (o : Option ℕ) → (task_at w t).since ≡ o → wait w t ≤ l
      go None e = omega (arith, ap (λ (k : Option ℕ). time_since w.clock k) e)
      go (Some k) e = by_entry (entry_of w.queues t) refl (or_not (waits w t) (sym (has t) ∙ ap (λ (o : Option ℕ). is_some o) e))

none_overdue : (w : WorldState) (limit : ℕ) → ((t : ℕ) → wait w t ≤ limit) → first_overdue w limit ≡ None
none_overdue w limit h = no_position (is_overdue w.clock limit) w.tasks (λ k d lt. in_time_of w.clock limit (get_or w.tasks k d).since (subst (λ (x : Task). time_since w.clock x.since ≤ limit) (sym (get_or_default w.tasks k d no_task lt)) (h k)))

-- ---- who runs alone

-- a task that appears nowhere waits in no queue
nowhere : (s : QueueState) (t : ℕ) → standing s t ≡ 0 → entry_of s t ≡ None
nowhere s t none = go (entry_of s t) none
  where
    go : (o : Option Entry) → one_if (is_some o) ≡ 0 → o ≡ None
    go None e = refl
    go (Some p) e = absurd (omega (arith, e))

-- and doesn't run
no_runner : (cpus : List (Option ℕ)) (t k : ℕ) → length cpus ≡ 1 → runs cpus t ≡ 0 → get_or cpus 0 None ≡ Some k → k ≡ t → ⊥
no_runner [] t k one none is same = omega (arith, one)
no_runner (x ∷ xs) t k one none is same =
    let here : one_if (is_this t x) ≡ 1 = ap (λ (o : Option ℕ). one_if (is_this t o)) is ∙ ap one_if (eq-eqb t k (sym same)) in
    omega (arith, sum_by-cons (λ o. one_if (is_this t o)) x xs, none, here)

-- an idle processor
idle_is : (w : WorldState) (o : Option ℕ) → length w.cpus ≡ 1 → running w 0 ≡ o → w.cycling ≡ None → is_idle w 0 ≡ is_none o
idle_is w o one runs still =
    ap (λ k. nat_lt 0 k && is_none (running w 0) && not (is_this 0 w.cycling)) one
    ∙ (ap (λ p. nat_lt 0 1 && is_none p && not (is_this 0 w.cycling)) runs ∙ (ap (λ c. nat_lt 0 1 && is_none o && not (is_this 0 c)) still ∙ go o))
  where
    go : (o : Option ℕ) → (nat_lt 0 1 && is_none o && not (is_this 0 None)) ≡ is_none o
    go None = refl
    go (Some k) = refl

-- ---- a tick

-- after a tick a slice lasts one tick less
ticks_less : (k : ℕ) → 0 < k → ticks_of (k - tick_ns) + 1 ≤ ticks_of k
ticks_less k l = omega (arith, l)

counted : (k slice : ℕ) → slice < 0xffff_ffff_ffff_ffff → k ≤ max slice default_slice → counted_down k ≡ k - tick_ns
counted k slice less most = ap (λ b. if b then k else k - tick_ns) (ne_eqb k 0xffff_ffff_ffff_ffff (λ e. omega (arith, e, less, most)))

module _ (slice n : ℕ) (less : slice < 0xffff_ffff_ffff_ffff) where
  abbrev bound : ℕ
  bound = longest_wait n slice

  tick_busy : (s : State) (r : ℕ) → running s.world 0 ≡ Some r → IsBetween slice n (bound + 1) s → IsBetween slice n bound (count_down s 0 r).state
  unfolding count_down use_up expire ends_slices
  tick_busy s r runs h =
      subst (λ (k : Stepped). IsBetween slice n bound (use_up k.state 0 r).state) (sym (heard_plain u (world_plain u.world (h.0.going.lined.1.rules)) 0 r))
      (subst (λ b. IsBetween slice n bound (if b then throttle v 0 r else expire v 0 r).state) (sym (and_right (nat_lt r (length v.world.tasks)) (limits.is_throttled v.world.tree r) (none_throttled v.world.tree r free)))
      (go ((task_at v.world r).slice == 0) refl))
    where
      u : State
      u = with_world s (after_tick s.world r)

      v : State
      v = with_world u (used_ms u.world r)

      x : Task
      x = ran_a_tick (task_at s.world r)

      b : IsBounded slice n (bound + 1) s.world.clock s.world.tasks (Some r) s.world.queues
      b = subst (λ o. IsBounded slice n (bound + 1) s.world.clock s.world.tasks o s.world.queues) runs h.0.going.turning.bounded

      count : x.slice ≡ (task_at s.world r).slice - tick_ns
      count = counted (task_at s.world r).slice slice less (b.most r refl)

      ran : IsBounded slice n bound s.world.clock (set s.world.tasks r x) (Some r) s.world.queues
      ran = bounded_ran slice n (bound + 1) s.world.clock bound 1 s.world.tasks s.world.queues r x (omega (arith, count, b.most r refl)) (subst (λ k. ticks_of k + 1 ≤ ticks_of (task_at s.world r).slice) (sym count) (ticks_less (task_at s.world r).slice (h.0.busy r runs))) refl b

      turning : IsTurning slice n bound u.world
      turning = record { force = h.0.going.turning.force; one = h.0.going.turning.one; bounded = subst (λ o. IsBounded slice n bound s.world.clock (set s.world.tasks r x) o s.world.queues) (sym runs) ran }

      free : has_quota v.world.tree.groups ≡ false
      free = keeps_if (λ (w : WorldState). has_quota w.tree.groups ≡ false) (nat_lt r (length u.world.tasks)) _ u.world h.0.going.free h.0.going.free

      line : IsInLine v.world
      line = ((keeps_line slice).used u r ((keeps_line slice).ticked s r h.0.going.lined)).1

      turning-used : IsTurning slice n bound v.world
      turning-used = keeps_if (IsTurning slice n bound) (nat_lt r (length u.world.tasks)) _ u.world (record { force = turning.force; one = turning.one; bounded = turning.bounded }) turning

      own : exists v.world.queues (local_on 0) ≡ true
      own = keeps_if (λ (w : WorldState). exists w.queues (local_on 0) ≡ true) (nat_lt r (length u.world.tasks)) _ u.world h.0.going.own h.0.going.own

      g : IsGoing slice n bound v
      g = going_in slice n bound (bound + 1) s v.world line turning-used free own h.0.going

      runs-still : running v.world 0 ≡ Some r
      runs-still = keeps_if (λ (w : WorldState). running w 0 ≡ Some r) (nat_lt r (length u.world.tasks)) _ u.world runs runs

      none : len_of v.world.queues (local_on 0) ≡ 0
      none = keeps_if (λ (w : WorldState). len_of w.queues (local_on 0) ≡ 0) (nat_lt r (length u.world.tasks)) _ u.world h.0.none h.0.none

      still : v.world.cycling ≡ None
      still = keeps_if (λ (w : WorldState). w.cycling ≡ None) (nat_lt r (length u.world.tasks)) _ u.world h.1 h.1

      ends : ends_slices v ≡ true
      ends = ap (λ b. not b || is_tick_time v) (world_plain v.world line.rules)

      go : (b : Bool) → ((task_at v.world r).slice == 0) ≡ b → IsBetween slice n bound (if b && ends_slices v then cycle v 0 (Some r) true else stays v).state
      go true e = subst (λ c. IsBetween slice n bound (if c then cycle v 0 (Some r) true else stays v).state) (sym ends) (cycle_works slice n bound v (Some r) true (omega arith) runs-still g none)
      go false e = (record { going = g; none = none; busy = λ k y. subst (λ i. 0 < (task_at v.world i).slice) (same_Some r k (sym runs-still ∙ y)) (positive (task_at v.world r).slice e); idle = λ y. let bad : Some r ≡ None = sym runs-still ∙ y in absurd (cc) }, still)

  tick_works : (s : State) → IsBetween slice n (bound + 1) s → IsBetween slice n bound (tick s 0).state
  unfolding tick tick_idle
  tick_works s h = go (running s.world 0) refl
    where
      go : (o : Option ℕ) → running s.world 0 ≡ o → IsBetween slice n bound (tick_of o s 0).state
      go None runs =
          let g = going_in slice n bound (bound + 1) s s.world h.0.going.lined.1 (turning_empty slice n (bound + 1) bound s.world (h.0.idle runs) h.0.going.turning) h.0.going.free h.0.going.own h.0.going in
          subst (λ b. IsBetween slice n bound (if b then stays s else cycle s 0 None false).state) (sym (world_plain s.world h.0.going.lined.1.rules)) (cycle_works slice n bound s None false (omega arith) runs g h.0.none)
      go (Some r) runs = tick_busy s r runs h

  -- ---- the clock

  clock_works : (s : State) → HasWaits None s.world → IsBetween slice n bound s → IsBetween slice n (bound + 1) (clock s).state
  unfolding clock let_all_go let_go_from timers_and_watchdog watch
  clock_works s has h =
      subst (λ (k : State). IsBetween slice n (bound + 1) (timers_and_watchdog k).state) (sym none_go)
      (subst (λ (k : State). IsBetween slice n (bound + 1) (eject_if_stalled (overdue k) k).state) (sym (timers_plain v (world_plain v.world h.0.going.lined.1.rules)))
      (subst (λ o. IsBetween slice n (bound + 1) (eject_if_stalled o v).state) (sym in_time) (at_work, h.1)))
    where
      v : State
      v = with_world s (begun_periods (later s.world))

      turning : IsTurning slice n (bound + 1) v.world
      turning = record { force = h.0.going.turning.force; one = h.0.going.turning.one; bounded = bounded_later slice n bound s.world.clock s.world.tasks (running s.world 0) s.world.queues h.0.going.turning.bounded }

      at_work : IsAtWork slice n (bound + 1) v
      at_work = record { going = going_in slice n (bound + 1) bound s v.world ((keeps_line slice).later s h.0.going.lined).1 turning h.0.going.free h.0.going.own h.0.going; none = h.0.none; busy = h.0.busy; idle = h.0.idle }

      none_go : (let_all_go v).state ≡ v
      none_go = ap (λ k. (let_go_from k v (front_of v.world.queues parked_queue)).state) (empty_other slice n bound s.world parked_queue refl refl h.0.going.turning)

      in_time : overdue v ≡ None
      in_time =
          ap (λ b. if b then None else first_overdue v.world v.policy.timeout_ms) (ap (λ (o : Option Eject). is_some o) h.0.going.turning.force)
          ∙ none_overdue v.world v.policy.timeout_ms (λ t. omega (arith, waits_no_longer slice n bound v has at_work t, h.0.going.patient))

  -- ---- a wake

  module _ (m : ℕ) (longest : bound ≤ m) where
    wake_works : (s : State) (t : ℕ) → t < length s.world.tasks → entry_of s.world.queues t ≡ None → ((k : ℕ) → running s.world 0 ≡ Some k → k ≡ t → ⊥) → ((u : ℕ) → (task_at s.world u).prev_cpu < length s.world.cpus) → IsBetween slice n m s → IsBetween slice n m (wake s t).state
    unfolding wake select ask_target settle comes_to wake_target
    wake_works s t within free apart homes h =
        subst (λ (k : State). IsBetween slice n m (select k t).state) (sym (waker_plain u plain t))
        (subst (λ b. IsBetween slice n m (if not (b && has_one_cpu u.world t) then ask_target u t else settle_at_home u t (first_home u.world t)).state) (sym plain)
        (subst (λ (k : State). IsBetween slice n m (settle (chosen (acting k callback.SelectCpu) k t) t (target (acting k callback.SelectCpu) k.world t (answered_by u callback.SelectCpu (task_cpu_and_0 t c) t c))).state) (sym asked)
        (subst (λ (p : Option VerifiedProgram). IsBetween slice n m (settle (chosen p q t) t (target p q.world t (answered_by u callback.SelectCpu (task_cpu_and_0 t c) t c))).state) (sym (acts_not q callback.SelectCpu h.0.going.asks_none))
        (subst (λ (k : State). IsBetween slice n m (settle k t (default_choice q.world t)).state) (sym (chosen_plain q plain None t))
        (subst (λ d. IsBetween slice n m (settle q t d).state) (sym at_0)
        (subst (λ (w : WorldState). IsBetween slice n m (from w)) (sym (homed_plain q.world plain t 0))
        (subst (λ b. IsBetween slice n m (if b then told_runnable None q t 0 else comes_to None q t 0).state) (sym plain)
        (subst (λ (k : State). IsBetween slice n m (wake_target k 0).state) (sym put_is)
        (subst (λ b. IsBetween slice n m (if b then stays (kicked_if_idle (woken v) 0) else (if is_idle final 0 then cycle v 0 None false else stays v)).state) (sym (world_plain final line.1.rules))
        (go (running s.world 0) refl))))))))))
      where
        u : State
        u = with_world s (after_wake s.world t)

        plain : is_by_linux u ≡ false
        plain = world_plain u.world h.0.going.lined.1.rules

        c : ℕ
        c = (task_at u.world t).prev_cpu

        q : State
        q = with_world u (at_callback u.world callback.SelectCpu t c)

        q-line : IsInLine q.world
        q-line = line_at u.world callback.SelectCpu t c ((keeps_line slice).woken s t h.0.going.lined).1

        asked : (call_back u callback.SelectCpu (task_cpu_and_0 t c) t c).state ≡ q
        asked = nothing_called u callback.SelectCpu (task_cpu_and_0 t c) t c (acts_not u callback.SelectCpu h.0.going.asks_none) (zero_there (at_callback u.world callback.SelectCpu t c) h.0.going.lined.1.some)

        from : WorldState → State
        from w = (if is_by_linux (with_world q w) then told_runnable w.call.insert (with_world q w) t 0 else comes_to w.call.insert (with_world q w) t 0).state

        woken_at : get_or (set s.world.tasks t (with_since (task_at s.world t) (Some s.world.clock))) t no_task ≡ with_since (task_at s.world t) (Some s.world.clock)
        woken_at = get_or-set_same s.world.tasks t (with_since (task_at s.world t) (Some s.world.clock)) no_task within

        at_0 : default_choice q.world t ≡ 0
        at_0 = omega (arith, chosen_there q.world t (subst (λ (x : Task). x.prev_cpu < length s.world.cpus) (sym woken_at) (homes t)), h.0.going.turning.one)

        entered : WorldState
        entered = quiet (with_insert (at_callback q.world callback.Enqueue t 0) (line_end slice))

        final : WorldState
        final = after_enter entered t (line_end slice)

        v : State
        v = with_world q final

        put_is : (put q t 0 1).state ≡ v
        put_is = put_lined slice q t 0 1 refl h.0.going.turning.force (h.0.going.lined.0, q-line)

        line : IsKeptInLine slice v
        line = subst (IsKeptInLine slice) put_is ((keeps_line slice).puts q t 0 1 refl (h.0.going.lined.0, q-line))

        unseen : IsBounded slice n m s.world.clock entered.tasks (running s.world 0) s.world.queues
        unseen = bounded_unseen slice n m s.world.clock s.world.tasks (running s.world 0) s.world.queues t (with_since (task_at s.world t) (Some s.world.clock)) free apart h.0.going.turning.bounded

        turning : IsTurning slice n m final
        turning = turning_put slice n m entered t (nonzero slice h.0.going.some) longest free apart (omega (arith, within, h.0.going.turning.bounded.many)) (ap (λ (x : Task). x.since) woken_at) (record { force = h.0.going.turning.force; one = h.0.going.turning.one; bounded = unseen })

        own : exists final.queues (local_on 0) ≡ true
        own = keeps_if (λ (w : WorldState). exists w.queues (local_on 0) ≡ true) (nat_lt t (length entered.tasks)) _ entered (still_there s.world.queues (after_push s.world.queues 0 t Fifo) (local_on 0) (ids_pushed s.world.queues 0 t Fifo) h.0.going.own) h.0.going.own

        quotas : has_quota final.tree.groups ≡ false
        quotas = keeps_if (λ (w : WorldState). has_quota w.tree.groups ≡ false) (nat_lt t (length entered.tasks)) _ entered h.0.going.free h.0.going.free

        g : IsGoing slice n m v
        g = going_in slice n m m s final line.1 turning quotas own h.0.going

        none : len_of final.queues (local_on 0) ≡ 0
        none = keeps_if (λ (w : WorldState). len_of w.queues (local_on 0) ≡ 0) (nat_lt t (length entered.tasks)) _ entered (len_other s.world.queues 0 (local_on 0) t refl free (omega (arith, within, h.0.going.turning.bounded.even, h.0.going.turning.bounded.many)) ∙ h.0.none) h.0.none

        runs-still : (o : Option ℕ) → running s.world 0 ≡ o → running final 0 ≡ o
        runs-still o e = keeps_if (λ (w : WorldState). running w 0 ≡ o) (nat_lt t (length entered.tasks)) _ entered e e

        still : final.cycling ≡ None
        still = keeps_if (λ (w : WorldState). w.cycling ≡ None) (nat_lt t (length entered.tasks)) _ entered h.1 h.1

        -- another task keeps its slice
        slice_same : (k : ℕ) → (k ≡ t → ⊥) → (task_at final k).slice ≡ (task_at s.world k).slice
        slice_same k other =
            keeps_if (λ (w : WorldState). (task_at w k).slice ≡ (task_at s.world k).slice) (nat_lt t (length entered.tasks)) _ entered
            (ap (λ (x : Task). x.slice) (get_or-set_other entered.tasks t k _ no_task other ∙ get_or-set_other s.world.tasks t k _ no_task other))
            (ap (λ (x : Task). x.slice) (get_or-set_other s.world.tasks t k _ no_task other))

        go : (o : Option ℕ) → running s.world 0 ≡ o → IsBetween slice n m (if is_idle final 0 then cycle v 0 None false else stays v).state
        go None runs = subst (λ b. IsBetween slice n m (if b then cycle v 0 None false else stays v).state) (sym (idle_is final None turning.one (runs-still None runs) still)) (cycle_works slice n m v None false longest (runs-still None runs) g none)
        go (Some k) runs = subst (λ b. IsBetween slice n m (if b then cycle v 0 None false else stays v).state) (sym (idle_is final (Some k) turning.one (runs-still (Some k) runs) still)) (
          record {
            going = g;
            none = none;
            busy = λ j y. subst (λ i. 0 < (task_at final i).slice) (same_Some k j (sym (runs-still (Some k) runs) ∙ y)) (omega (arith, slice_same k (apart k runs), h.0.busy k runs));
            idle = λ y. let bad : Some k ≡ None = sym (runs-still (Some k) runs) ∙ y in absurd (cc);
          },
          still,
        )

    -- ---- a sleep

    -- a task that waits nowhere and doesn't run goes to sleep
    asleep_turning : (w : WorldState) (t : ℕ) → entry_of w.queues t ≡ None → ((k : ℕ) → running w 0 ≡ Some k → k ≡ t → ⊥) → IsTurning slice n m w → IsTurning slice n m (after_sleep w t)
    asleep_turning w t free apart h = keeps_if (IsTurning slice n m) (nat_lt t (length w.tasks)) _ w (record { force = h.force; one = h.one; bounded = bounded_unseen slice n m w.clock w.tasks (running w 0) w.queues t (with_since (task_at w t) None) free apart h.bounded }) h

    asleep_going : (s : State) (t : ℕ) → entry_of s.world.queues t ≡ None → ((k : ℕ) → running s.world 0 ≡ Some k → k ≡ t → ⊥) → IsGoing slice n m s → IsGoing slice n m (with_world s (after_sleep s.world t))
    asleep_going s t free apart h =
        going_in slice n m m s (after_sleep s.world t) ((keeps_line slice).asleep s t h.lined).1 (asleep_turning s.world t free apart h.turning)
        (keeps_if (λ (w : WorldState). has_quota w.tree.groups ≡ false) (nat_lt t (length s.world.tasks)) _ s.world h.free h.free)
        (keeps_if (λ (w : WorldState). exists w.queues (local_on 0) ≡ true) (nat_lt t (length s.world.tasks)) _ s.world h.own h.own) h

    -- once it is off the processor, which looks for another
    falls_asleep_works : (s : State) (t : ℕ) → entry_of s.world.queues t ≡ None → running s.world 0 ≡ None → IsGoing slice n m s → len_of s.world.queues (local_on 0) ≡ 0 → IsBetween slice n m (looks_after_sleep (falls_asleep s t 0).state t 0).state
    unfolding looks_after_sleep
    falls_asleep_works s t free idle h none =
        subst (λ (k : Stepped). IsBetween slice n m (looks_after_sleep k.state t 0).state) (sym (asleep_plain s t (world_plain v.world g.lined.1.rules) 0))
        (subst (λ (k : State). IsBetween slice n m (cycle k 0 None true).state) (sym (slept_plain v (world_plain v.world g.lined.1.rules) t)) (cycle_works slice n m v None true longest rests g empty))
      where
        v : State
        v = with_world s (after_sleep s.world t)

        g : IsGoing slice n m v
        g = asleep_going s t free (λ k e same. let bad : None ≡ Some k = sym idle ∙ e in absurd (cc)) h

        rests : running v.world 0 ≡ None
        rests = keeps_if (λ (w : WorldState). running w 0 ≡ None) (nat_lt t (length s.world.tasks)) _ s.world idle idle

        empty : len_of v.world.queues (local_on 0) ≡ 0
        empty = keeps_if (λ (w : WorldState). len_of w.queues (local_on 0) ≡ 0) (nat_lt t (length s.world.tasks)) _ s.world none none

    sleep_from_cpu_works : (s : State) (t : ℕ) → running s.world 0 ≡ Some t → IsBetween slice n m s → IsBetween slice n m (sleep_from_cpu s t 0).state
    unfolding sleep_from_cpu leaves_cpu
    sleep_from_cpu_works s t runs h =
        by_stop (λ (r : Stepped). Works r.state) (with_world s (after_stop (with_switch s.world 0) 0 t)) 0 t 0
        (subst (λ (w : WorldState). (r : Stepped) → IsSwitch (with_world s (after_stop w 0 t)) t 0 (after_charge (after_stop w 0 t) t) r → Works r.state) (sym (switch_plain s.world (world_plain s.world h.0.going.lined.1.rules) 0))
        (off_is slice n m Works s t h.0.going (λ b. falls_asleep_works (off_cpu slice n m s t b) t (h.0.going.turning.bounded.off t runs).1 (off_idle slice n m s t h.0.going) (going_off slice n m s t b runs h.0.going) h.0.none)))
      where
        Works : State → Type 0
        Works k = IsBetween slice n m (looks_after_sleep (falls_asleep k t 0).state t 0).state

    sleep_from_queue_works : (s : State) (t c : ℕ) → t < length s.world.tasks → ((k : ℕ) → running s.world 0 ≡ Some k → k ≡ t → ⊥) → IsBetween slice n m s → IsBetween slice n m (sleep_from_queue s t c).state
    unfolding sleep_from_queue leaves_queue
    sleep_from_queue_works s t c within apart h =
        subst (λ (k : State). IsBetween slice n m (falls_asleep k t c).state) (sym (dequeued_plain u plain (is_in_custody s.world t) t c 1))
        (subst (λ (k : Stepped). IsBetween slice n m k.state) (sym (asleep_plain u t (world_plain v.world g.lined.1.rules) c))
        (record { going = g; none = none; busy = busy; idle = idle }, still))
      where
        u : State
        u = with_world s (after_leave s.world t)

        v : State
        v = with_world u (after_sleep u.world t)

        plain : is_by_linux u ≡ false
        plain = world_plain u.world h.0.going.lined.1.rules

        left : IsBounded slice n m s.world.clock s.world.tasks (running s.world 0) (after_remove s.world.queues t)
        left = keeps_if (IsBounded slice n m s.world.clock s.world.tasks (running s.world 0)) (is_some (entry_of s.world.queues t)) (without_task s.world.queues t) s.world.queues (bounded_left slice n m s.world.clock s.world.tasks (running s.world 0) s.world.queues t h.0.going.turning.bounded) h.0.going.turning.bounded

        gone : entry_of (after_remove s.world.queues t) t ≡ None
        gone = go (entry_of s.world.queues t) refl
          where
            go : (o : Option Entry) → entry_of s.world.queues t ≡ o → entry_of (if is_some o then without_task s.world.queues t else s.world.queues) t ≡ None
            go None e = e
            go (Some p) e = get_or-set_same {A = Option Entry} s.world.queues.entries t None None (known_there s.world.queues t p e)

        shorter : (q : ℕ) → len_of (after_remove s.world.queues t) q ≤ len_of s.world.queues q
        shorter q = keeps_if (λ (k : QueueState). len_of k q ≤ len_of s.world.queues q) (is_some (entry_of s.world.queues t)) (without_task s.world.queues t) s.world.queues (len_left s.world.queues t q) (omega arith)

        u-going : IsGoing slice n m u
        u-going = going_in slice n m m s u.world ((keeps_line slice).removed s t tt h.0.going.lined).1 (record { force = h.0.going.turning.force; one = h.0.going.turning.one; bounded = left }) h.0.going.free (still_there s.world.queues (after_remove s.world.queues t) (local_on 0) (ids_removed s.world.queues t) h.0.going.own) h.0.going

        g : IsGoing slice n m v
        g = asleep_going u t gone apart u-going

        none : len_of v.world.queues (local_on 0) ≡ 0
        none = let l : len_of u.world.queues (local_on 0) ≡ 0 = omega (arith, shorter (local_on 0), h.0.none) in keeps_if (λ (w : WorldState). len_of w.queues (local_on 0) ≡ 0) (nat_lt t (length u.world.tasks)) _ u.world l l

        still : v.world.cycling ≡ None
        still = keeps_if (λ (w : WorldState). w.cycling ≡ None) (nat_lt t (length u.world.tasks)) _ u.world h.1 h.1

        runs-same : running v.world 0 ≡ running s.world 0
        runs-same = keeps_if (λ (w : WorldState). running w 0 ≡ running s.world 0) (nat_lt t (length u.world.tasks)) _ u.world refl refl

        slice_same : (k : ℕ) → (k ≡ t → ⊥) → (task_at v.world k).slice ≡ (task_at s.world k).slice
        slice_same k other = keeps_if (λ (w : WorldState). (task_at w k).slice ≡ (task_at s.world k).slice) (nat_lt t (length u.world.tasks)) _ u.world (ap (λ (x : Task). x.slice) (get_or-set_other s.world.tasks t k _ no_task other)) refl

        busy : (k : ℕ) → running v.world 0 ≡ Some k → 0 < (task_at v.world k).slice
        busy k e = let runs = sym runs-same ∙ e in omega (arith, slice_same k (apart k runs), h.0.busy k runs)

        idle : running v.world 0 ≡ None → len_of v.world.queues 0 ≡ 0
        idle e = let l : len_of u.world.queues 0 ≡ 0 = omega (arith, shorter 0, h.0.idle (sym runs-same ∙ e)) in keeps_if (λ (w : WorldState). len_of w.queues 0 ≡ 0) (nat_lt t (length u.world.tasks)) _ u.world l l

    sleep_works : (s : State) (t : ℕ) → t < length s.world.tasks → IsBetween slice n m s → IsBetween slice n m (sleep s t).state
    unfolding sleep
    sleep_works s t within h = go (cpu_of s.world t) refl
      where
        -- on the only processor
        at_0 : (c : ℕ) → cpu_of s.world t ≡ Some c → c ≡ 0
        at_0 c e = omega (arith, (position-Some (is_this t) s.world.cpus c None e).0, h.0.going.turning.one)

        runs_there : (c : ℕ) → cpu_of s.world t ≡ Some c → running s.world c ≡ Some t
        runs_there c e = is_task t (get_or s.world.cpus c None) (position-Some (is_this t) s.world.cpus c None e).1

        -- nor on none
        other : cpu_of s.world t ≡ None → (k : ℕ) → running s.world 0 ≡ Some k → k ≡ t → ⊥
        other e k is same = go_on s.world.cpus h.0.going.turning.one is e
          where
            first_found : (x : Option ℕ) (xs : List (Option ℕ)) → is_this t x ≡ true → position (is_this t) (x ∷ xs) ≡ Some 0
            first_found x xs here = rw (here, lt-ltb 0 (length (x ∷ xs)) (omega arith)) refl

            found : (x : Option ℕ) (xs : List (Option ℕ)) → is_this t x ≡ true → position (is_this t) (x ∷ xs) ≡ None → ⊥
            found x xs here none = bad (sym (first_found x xs here) ∙ none)
              where
                bad : ◌≡◌ {A = Option ℕ} (Some 0) None → ⊥
                bad e = absurd (cc)

            go_on : (cpus : List (Option ℕ)) → length cpus ≡ 1 → get_or cpus 0 None ≡ Some k → position (is_this t) cpus ≡ None → ⊥
            go_on [] one is none = omega (arith, one)
            go_on (x ∷ xs) one is none =
                let here : is_this t x ≡ true = ap (λ (o : Option ℕ). is_this t o) is ∙ eq-eqb t k (sym same) in
                absurd (found x xs here none)

        go : (o : Option ℕ) → cpu_of s.world t ≡ o → IsBetween slice n m (sleep_from o s t).state
        go None e = sleep_from_queue_works s t (task_at s.world t).prev_cpu within (other e) h
        go (Some c) e = subst (λ k. IsBetween slice n m (sleep_from_cpu s t k).state) (sym (at_0 c e)) (sleep_from_cpu_works s t (subst (λ k. running s.world k ≡ Some t) (at_0 c e) (runs_there c e)) h)

    -- ---- weights

    -- where groups have other weights, if any
    same_but_tree : (s : State) (b : Bool) (tree : Hierarchy) → has_quota tree.groups ≡ false → IsInLine (if b then with_tree s.world tree else s.world) → IsBetween slice n m s → IsBetween slice n m (with_world s (if b then with_tree s.world tree else s.world))
    same_but_tree s false tree free line h = h
    same_but_tree s true tree free line h = (
      record {
        going = going_in slice n m m s (with_tree s.world tree) line (record { force = h.0.going.turning.force; one = h.0.going.turning.one; bounded = h.0.going.turning.bounded }) free h.0.going.own h.0.going;
        none = h.0.none;
        busy = h.0.busy;
        idle = h.0.idle;
      },
      h.1,
    )

    reweigh_works : (s : State) (t x : ℕ) → IsBetween slice n m s → IsBetween slice n m (reweigh s t x).state
    unfolding reweigh
    reweigh_works s t x h =
        subst (λ b. IsBetween slice n m (if b then reweigh_by_linux s t x else stays (with_world s (after_own_weight s.world t x))).state) (sym (world_plain s.world h.0.going.lined.1.rules))
        (same_but_tree s (is_none (own_weight_fault s.world.tree t x)) (with_own_weight s.world.tree t x) (free_after (SetTaskWeight t x) s.world h.0.going.free) ((keeps_line slice).weighed s t x h.0.going.lined).1 h)

    group_works : (s : State) (g x : ℕ) → IsBetween slice n m s → IsBetween slice n m (with_world s (after_reweigh s.world g x))
    group_works s g x h = same_but_tree s (is_none (weight_fault s.world.tree g x)) (with_weight s.world.tree g x) (free_after (SetWeight g x) s.world h.0.going.free) ((keeps_line slice).reweighed s g x h.0.going.lined).1 h

  -- ---- an accepted event

  -- by plain rules no round follows
  after_own : (j : ℕ) (s : State) (e : Event) → IsBetween slice n j (own_step s e).state → IsBetween slice n j (event_step s e).state
  after_own j s e h = subst (λ (r : Stepped). IsBetween slice n j r.state) (sym (rounds_plain (own_step s e) (plain_going slice n j (own_step s e).state h.0.going))) h

  -- a task that sleeps waits in no queue
  sleeper_waits_nowhere : (s : SimState) (t : ℕ) → IsFirm s → is_runnable s.state.world t ≡ false → (entry_of s.state.world.queues t ≡ None) × (runs s.state.world.cpus t ≡ 0)
  sleeper_waits_nowhere s t f rests =
      let once = f.fine.sound.once t in
      let none : one_if (is_runnable s.state.world t) ≡ 0 = ap one_if rests in
      (nowhere s.state.world.queues t (omega (arith, once, none)), omega (arith, once, none))

  -- neither a tick nor a clock
  abbrev IsOther : Event → Type 0
  IsOther (Tick c) = ⊥
  IsOther Clock = ⊥
  IsOther (Wake t) = Unit {0}
  IsOther (Sleep t) = Unit {0}
  IsOther (SetWeight g x) = Unit {0}
  IsOther (SetTaskWeight t x) = Unit {0}

  other_works : (m : ℕ) → bound ≤ m → (s : SimState) (e : Event) → IsOther e → IsTaken s.state e → IsFirm s → IsBetween slice n m s.state → IsBetween slice n m (event_step s.state e).state
  other_works m longest s _ other (Wakes t within rests) f h =
      let x = sleeper_waits_nowhere s t f rests in
      after_own m s.state (Wake t) (wake_works m longest s.state t within x.0 (λ k. no_runner s.state.world.cpus t k h.0.going.turning.one x.1) f.fine.sound.homes h)
  other_works m longest s _ other (Sleeps t within runnable) f h = after_own m s.state (Sleep t) (sleep_works m longest s.state t within h)
  other_works m longest s _ other (Ticks c l) f h = absurd other
  other_works m longest s _ other Clocks f h = absurd other
  other_works m longest s _ other (Weighs g x) f h = after_own m s.state (SetWeight g x) (group_works m longest s.state g x h)
  other_works m longest s _ other (WeighsTask t x within) f h = after_own m s.state (SetTaskWeight t x) (reweigh_works m longest s.state t x h)

  -- ---- any event

  -- before a tick a wait may be a millisecond longer
  abbrev bound_if : Bool → ℕ
  bound_if true = bound
  bound_if false = bound + 1

  at_most_one_more : (ticked : Bool) → bound_if ticked ≤ bound + 1
  at_most_one_more true = omega arith
  at_most_one_more false = omega arith

  at_least : (ticked : Bool) → bound ≤ bound_if ticked
  at_least true = omega arith
  at_least false = omega arith

  -- a machine that has accepted all events that it may, or one that goes on
  abbrev IsRunning : Bool → SimState → Type 0
  IsRunning ticked s = (((s.events == max_events) ≡ true) × IsBetween slice n (bound + 1) s.state) ⊎ IsBetween slice n (bound_if ticked) s.state

  over_same : (s : SimState) (e : Event) → (s.events == max_events) ≡ true → after_event s e ≡ s
  over_same s e y = ap (λ b. stepped_if (if b then Some RunOver else machine.refusal s.state e) s e) y

  -- an event that is refused, or accepted
  any_step : (ticked next : Bool) (s : SimState) (e : Event) → (IsBetween slice n (bound_if ticked) s.state → refusal s e ≡ None → IsBetween slice n (bound_if next) (event_step s.state e).state) → ((r : Refused) → (s.events == max_events) ≡ false → refusal s e ≡ Some r → IsBetween slice n (bound_if ticked) s.state → IsBetween slice n (bound_if next) s.state) → IsRunning ticked s → IsRunning next (after_event s e)
  any_step ticked next s e taken refused (inl over) = subst (IsRunning next) (sym (over_same s e over.0)) (inl over)
  any_step ticked next s e taken refused (inr h) = go (s.events == max_events) refl
    where
      by : (o : Option Refused) → (s.events == max_events) ≡ false → refusal s e ≡ o → IsRunning next (stepped_if o s e)
      by None y ok = inr (taken h ok)
      by (Some r) y ok = inr (refused r y ok h)

      go : (b : Bool) → (s.events == max_events) ≡ b → IsRunning next (after_event s e)
      go true y = subst (IsRunning next) (sym (over_same s e y)) (inl (y, between_more slice n (bound_if ticked) (bound + 1) s.state (at_most_one_more ticked) h))
      go false y = by (refusal s e) y refl

  other_step : (ticked : Bool) (s : SimState) (e : Event) → IsOther e → IsFirm s → IsRunning ticked s → IsRunning ticked (after_event s e)
  other_step ticked s e other f h = any_step ticked ticked s e (λ x ok. other_works (bound_if ticked) (at_least ticked) s e other (is_taken s.state e (accepted s e ok).taken) f x) (λ r y ok x. x) h

  clock_step : (ticked : Bool) (s : SimState) → ticked ≡ true → IsFirm s → IsRunning ticked s → IsRunning false (after_event s Clock)
  clock_step ticked s is f h =
      any_step ticked false s Clock
      (λ x ok. after_own (bound + 1) s.state Clock (clock_works s.state f.fine.sound.waiting (subst (λ b. IsBetween slice n (bound_if b) s.state) is x)))
      (λ r y ok x. between_more slice n (bound_if ticked) (bound + 1) s.state (at_most_one_more ticked) x) h

  tick_step : (ticked : Bool) (s : SimState) (c : ℕ) → IsFirm s → IsRunning ticked s → IsRunning (ticked || c == 0) (after_event s (Tick c))
  tick_step ticked s c f h = any_step ticked (ticked || c == 0) s (Tick c) taken refused h
    where
      or_false : (b : Bool) → (b || false) ≡ b
      or_false true = refl
      or_false false = refl

      ticks : (d : ℕ) → d < length s.state.world.cpus → d ≡ c → IsBetween slice n (bound_if ticked) s.state → IsBetween slice n (bound_if (ticked || c == 0)) (event_step s.state (Tick c)).state
      ticks d l same x =
          let zero_is : c ≡ 0 = omega (arith, l, same, x.0.going.turning.one) in
          let flag : (ticked || c == 0) ≡ true = ap (λ b. ticked || b) (eq-eqb c 0 zero_is) ∙ or_right ticked true refl in
          let y = tick_works s.state (between_more slice n (bound_if ticked) (bound + 1) s.state (at_most_one_more ticked) x) in
          subst (λ b. IsBetween slice n (bound_if b) (event_step s.state (Tick c)).state) (sym flag) (subst (λ k. IsBetween slice n bound (event_step s.state (Tick k)).state) (sym zero_is) (after_own bound s.state (Tick 0) y))

      by_taken : IsTaken s.state (Tick c) → IsBetween slice n (bound_if ticked) s.state → IsBetween slice n (bound_if (ticked || c == 0)) (event_step s.state (Tick c)).state
      by_taken (Ticks d l) x = ticks c l refl x

      taken : IsBetween slice n (bound_if ticked) s.state → refusal s (Tick c) ≡ None → IsBetween slice n (bound_if (ticked || c == 0)) (event_step s.state (Tick c)).state
      taken x ok = by_taken (is_taken s.state (Tick c) (accepted s (Tick c) ok).taken) x

      -- one that is refused isn't that of processor 0
      is_other : (r : Refused) → (s.events == max_events) ≡ false → refusal s (Tick c) ≡ Some r → length s.state.world.cpus ≡ 1 → c ≡ 0 → ⊥
      is_other r y ok one zero_is =
          let there : nat_lt c (length s.state.world.cpus) ≡ true = ap (λ k. nat_lt k (length s.state.world.cpus)) zero_is ∙ ap (λ k. nat_lt 0 k) one in
          let none : refusal s (Tick c) ≡ None = ap (λ b. if b then Some RunOver else machine.refusal s.state (Tick c)) y ∙ ap (λ b. if b then None else Some UnknownCpu) there in
          let bad : None ≡ Some r = sym none ∙ ok in absurd (cc)

      refused : (r : Refused) → (s.events == max_events) ≡ false → refusal s (Tick c) ≡ Some r → IsBetween slice n (bound_if ticked) s.state → IsBetween slice n (bound_if (ticked || c == 0)) s.state
      refused r y ok x =
          let flag : (ticked || c == 0) ≡ ticked = ap (λ b. ticked || b) (ne_eqb c 0 (is_other r y ok x.0.going.turning.one)) ∙ or_false ticked in
          subst (λ b. IsBetween slice n (bound_if b) s.state) (sym flag) x

  -- ---- any list of events

  runs_on : (ticked : Bool) (s : SimState) (es : List Event) → HasTicks ticked es → IsFirm s → IsRunning ticked s → IsBetween slice n (bound + 1) (after_events s es).state
  runs_on ticked s [] has f (inl over) = over.1
  runs_on ticked s [] has f (inr h) = between_more slice n (bound_if ticked) (bound + 1) s.state (at_most_one_more ticked) h
  runs_on ticked s (Wake t ∷ es) has f h = runs_on ticked (after_event s (Wake t)) es has (firm_step s (Wake t) f) (other_step ticked s (Wake t) tt f h)
  runs_on ticked s (Sleep t ∷ es) has f h = runs_on ticked (after_event s (Sleep t)) es has (firm_step s (Sleep t) f) (other_step ticked s (Sleep t) tt f h)
  runs_on ticked s (Tick c ∷ es) has f h = runs_on (ticked || c == 0) (after_event s (Tick c)) es has (firm_step s (Tick c) f) (tick_step ticked s c f h)
  runs_on ticked s (Clock ∷ es) has f h = runs_on false (after_event s Clock) es has.1 (firm_step s Clock f) (clock_step ticked s has.0 f h)
  runs_on ticked s (SetWeight g x ∷ es) has f h = runs_on ticked (after_event s (SetWeight g x)) es has (firm_step s (SetWeight g x) f) (other_step ticked s (SetWeight g x) tt f h)
  runs_on ticked s (SetTaskWeight t x ∷ es) has f h = runs_on ticked (after_event s (SetTaskWeight t x)) es has (firm_step s (SetTaskWeight t x) f) (other_step ticked s (SetTaskWeight t x) tt f h)

-- ---- the first state

-- no task is active at first
inactive_first : (tree : Hierarchy) (cpus : ℕ) → is_bad_shape tree cpus ≡ false → length tree.active ≡ length tree.homes → (t : ℕ) → is_active_task tree t ≡ false
inactive_first tree cpus shape flags t = go (cases_lt t (length tree.homes))
  where
    none : (a b c : Bool) → (a || (b || c)) ≡ false → c ≡ false
    none false false c e = e
    none false true c e = absurd (cc)
    none true b c e = absurd (cc)

    test : ℕ → Bool
    test k = is_active_task tree k || is_nowhere tree cpus k

    go : (t < length tree.homes) ⊎ (length tree.homes ≤ t) → is_active_task tree t ≡ false
    go (inl l) = (or_parts (is_active_task tree t) (is_nowhere tree cpus t) (none_below_at (length tree.homes) t test (none (nat_lt cpus 1) (nat_lt 64 cpus) (any_below (length tree.homes) test) shape) l)).0
    go (inr past) = get_or_past {X = Bool} tree.active t false (omega (arith, past, flags))

-- the weights of the first state are those that it begins with
tree_first : (p : PolicyState) (tree : Hierarchy) (cpus : ℕ) (s : State) → first_state p tree cpus ≡ Ok s → s.world.tree ≡ (begun_periods (by_policy p (first_world tree cpus))).tree
tree_first p tree cpus s e =
    keeps_started cpus (λ v. v.world.tree ≡ (begun_periods (by_policy p (first_world tree cpus))).tree) (λ v b a u c any h. (same_called (acting v b) b a v.maps (at_callback v.world b u c)).3 ∙ h) (λ v h. h) p tree s e
    (keeps_homes (λ v. v.tree ≡ (begun_periods (by_policy p (first_world tree cpus))).tree) (λ v u c l same. same) (begun_periods (by_policy p (first_world tree cpus))) refl)

-- no cycle is under way
no_cycle_first : (p : PolicyState) (tree : Hierarchy) (cpus : ℕ) (s : State) → first_state p tree cpus ≡ Ok s → s.world.cycling ≡ None
no_cycle_first p tree cpus s e =
    keeps_started cpus (λ v. v.world.cycling ≡ None) (λ v b a u c any h. (same_called (acting v b) b a v.maps (at_callback v.world b u c)).2 ∙ h) (λ v h. h) p tree s e
    (keeps_homes (λ v. v.cycling ≡ None) (λ v u c l same. same) (begun_periods (by_policy p (first_world tree cpus))) refl)

module _ (slice : ℕ) (p : PolicyState) (tree : Hierarchy) (s : SimState) (a : IsPatientLine slice p tree s) where
  abbrev b : IsBegun p tree 1 s
  b = a.begun

  abbrev n : ℕ
  n = length tree.homes

  fine : IsFine n 0 0 None (replicate 1 None) s.state.world
  fine = fine_started p tree 1 s.state b.shape b.flags b.first.0

  none_queued : (u : ℕ) → entry_of s.state.world.queues u ≡ None
  none_queued u =
      let rests : is_runnable s.state.world u ≡ false = ap (λ (t : Hierarchy). is_active_task t u) (tree_first p tree 1 s.state b.first.0) ∙ inactive_first tree 1 b.shape b.flags u in
      nowhere s.state.world.queues u (omega (arith, fine.sound.once u, ap one_if rests))

  no_task_there : (u : ℕ) (e : Entry) → entry_of s.state.world.queues u ≡ Some e → ⊥
  no_task_there u e is = let bad : None ≡ Some e = sym (none_queued u) ∙ is in absurd (cc)

  rests : running s.state.world 0 ≡ None
  rests = ap (λ (xs : List (Option ℕ)). get_or xs 0 None) fine.sound.cpus

  no_runner_yet : (r : ℕ) → running s.state.world 0 ≡ Some r → ⊥
  no_runner_yet r e = let bad : None ≡ Some r = sym rests ∙ e in absurd (cc)

  empty : (q : ℕ) → len_of s.state.world.queues q ≡ 0
  empty q = none_pass (is_in q) None s.state.world.queues.entries (λ i. ap (λ (o : Option Entry). is_in q o) (none_queued i))

  first_bounded : IsBounded slice n (longest_wait n slice) s.state.world.clock s.state.world.tasks (running s.state.world 0) s.state.world.queues
  first_bounded = record {
    even = fine.sound.even;
    many = fine.sound.tasks;
    off = λ r e. absurd (no_runner_yet r e);
    here = λ u e is. absurd (no_task_there u e is);
    fifo = λ u e is. absurd (no_task_there u e is);
    stamped = fine.sound.stamped;
    own = λ u v a c is was same. absurd (no_task_there u a is);
    slices = λ u e is. absurd (no_task_there u e is);
    most = λ r e. absurd (no_runner_yet r e);
    bound = λ t e is here. absurd (no_task_there t e is);
  }

  begins : IsBetween slice n (longest_wait n slice) s.state
  begins = (
    record {
      going = record {
        lined = line_begins slice p tree 1 a.line a.rules b.shape s.state b.first.0;
        turning = record { force = force_started p tree 1 s.state b.first.0; one = ap (λ (xs : List (Option ℕ)). length xs) fine.sound.cpus; bounded = first_bounded };
        free = free_first p tree 1 s.state a.free b.first.0;
        own = fine.sound.queues.locals 0 (omega arith);
        asks_none = subst (λ (q : PolicyState). program_of q callback.SelectCpu ≡ None) (sym (policy_started p tree 1 s.state b.first.0)) a.chooses_none;
        patient = subst (λ (q : PolicyState). longest_wait n slice ≤ q.timeout_ms) (sym (policy_started p tree 1 s.state b.first.0)) a.timeout;
        some = a.some;
      };
      none = empty (local_on 0);
      busy = λ r e. absurd (no_runner_yet r e);
      idle = λ e. empty 0;
    },
    no_cycle_first p tree 1 s.state b.first.0,
  )

  -- and after all events
  works : (events : List Event) → HasTickAndClock events → IsBetween slice n (longest_wait n slice + 1) (after_events s events).state
  works events has = runs_on slice n a.ends false s events has (firm_first p tree 1 s b) (inr (between_more slice n (longest_wait n slice) (longest_wait n slice + 1) s.state (omega arith) begins))

-- the law
pub waits_at_most : WaitsAtMost
waits_at_most slice p tree s events t a has =
    let final = after_events s events in
    let later = firm_after s events (firm_first p tree 1 s a.begun) in
    waits_no_longer slice (length tree.homes) (longest_wait (length tree.homes) slice) final.state later.fine.sound.waiting (works slice p tree s a events has).0 t

pub stays_in_force : StaysInForce
stays_in_force slice p tree s events a has = (works slice p tree s a events has).0.going.turning.force
