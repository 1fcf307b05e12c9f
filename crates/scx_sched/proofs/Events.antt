-- Each event keeps what holds between two events.
use Rattle.std.proofs.Common.{unwrap_or, ◌≡◌, ℕ, zero, suc, not, ◌+◌, ◌<◌, ◌≤◌, Bool, true, false, ◌&&◌, ◌||◌, ◌==◌, nat_lt, ◌⊎◌, inl, inr, if◌then◌else◌, cond, List, length, set, get_or, Option, Some, None, is_some, is_none, refl, sym, ap, ◌∙◌, subst, arith}
use Rattle.std.proofs.lemmas.Bool.{cases_lt, eq-eqb, ne_eqb, lt-ltb}
use Rattle.std.proofs.lemmas.Bool.Decides.{nat_tests}
use Rattle.std.proofs.lemmas.List.{length-set, get_or-set_same, get_or_past}
use Rattle.std.proofs.lemmas.List.Quantifiers.{position-Some}
use Rattle.std.proofs.lemmas.List.Sums.{sum_by-set}
use Rattle.scx_dsq.specs.Queues.{queue_of}
use Rattle.scx_dsq.specs.Laws.{one_if}
use Rattle.scx_isa_semantics.specs.declared.callbacks.Callback.TheVariants as callback
use Rattle.scx_weights.specs.Hierarchy.{with_weight, with_own_weight}
use Rattle.scx_weights.specs.Limits.{with_use, usage_of}
use Rattle.scx_weights.specs.Limits as limits
use Rattle.scx_weights.specs.Refusals.{weight_fault, own_weight_fault, is_outside, max_weight}
use Rattle.scx_vm.specs.Programs.{VerifiedProgram}
use Rattle.scx_sched_world.specs.Ids.{policy_end, held_queue, parked_queue}
use Rattle.scx_sched_world.specs.CpuSets.{is_in_set, and_cpu, but_cpu}
use Rattle.scx_sched_world.specs.World as world
use Rattle.scx_sched_world.specs.World.{WorldState, with_tree, switch_at, with_switch, task_at, is_this, is_runnable, is_throttled, running, cpu_of, without_kick, with_slept, with_waker, is_idle, this_if, or_this, choice, default_choice, after_claim, at_callback, waits_in, waits, free_choice, first_home, may_run, lowest_cpu, is_free_for}
use Rattle.scx_sched_world.specs.declared.call.Insert.{Insert}
use Rattle.scx_sched_world.specs.declared.timers.Alarm.{Alarm}
use Rattle.scx_sched_world.specs.Pending.{is_pending, pending_below, first_pending}
use Rattle.scx_sched_world.specs.Helpers.{is_dispatch, with_timer}
use Rattle.scx_sched_world.specs.Tasks.{homed, for_cpu, after_cut_off, after_wake, after_sleep, after_leave, after_stop, let_go, ran_a_tick, after_tick, used_ms, later, begun_periods, after_reweigh, after_own_weight}
use Rattle.scx_sched_machine.specs.declared.events.Event.{Event}
use Rattle.scx_sched_machine.specs.declared.events.Event.TheVariants.{Wake, Sleep, Tick, Clock, SetWeight, SetTaskWeight}
use Rattle.scx_sched_machine.specs.declared.events.Refused.TheVariants.{AlreadyRunnable, NotRunnable, UnknownTask, UnknownCpu, BadWeight}
use Rattle.scx_sched_machine.specs.Steps.{State, Stepped, with_world, stays, is_ejected, is_by_linux, kicked_if_idle}
use Rattle.scx_sched_machine.specs.Callbacks.{acting, call_back, call_by_linux, answered_by, task_cpu_and_0, task_and_number}
use Rattle.scx_sched_machine.specs.Parking.{park, let_all_go}
use Rattle.scx_sched_policy.specs.Policy.{program_of}
use Rattle.scx_sched_machine.specs.Custody.{is_custody, is_in_custody, tells_dequeued, tells_dequeued_if}
use Rattle.scx_sched_machine.specs.Cycle.{cycle}
use Rattle.scx_sched_machine.specs.Firing.{fires, fire_all}
use Rattle.scx_sched_machine.specs.Events.{refusal, target, insert_or_put, woken, wake_target, comes_to, while_in_force, told_runnable, settle, inserted_by_choice, chosen, ask_target, asks_target, select, from_waker, wake, told_of_sleep, falls_asleep, looks_after_sleep, leaves_cpu, sleep_from_cpu, sleep_from, sleep, throttle, ends_slices, expire, use_up, tick_heard, count_down, tick_idle, tick_of, tick, overdue, eject_if_stalled, clock, own_step, event_step, leaves_queue, sleep_from_queue, watch, timers_and_watchdog, change_flags, takes_weight, changes_weight, reweigh_running, reweigh_waiting, reweigh_off_cpu, reweigh_at, reweigh_by_linux, reweigh, settle_at_home, cpu_or_home}
use Rattle.scx_sched_machine.specs.Rounds.{next_to_look, cut_off_if, look_past, look_from, round, with_rounds}
use Rattle.scx_sched_machine.proofs.Choices.{keeps_if}
use Rattle.scx_sched.specs.Once.{runs, GoesSomewhere, IsSound}
use Rattle.scx_sched.specs.Ranges.{IsFine}
use Rattle.scx_sched.specs.Usages.{AreWithin}
use Rattle.scx_sched.specs.Kept.{IsKeptBySteps, IsWanted, Inserted, Before}
use Rattle.scx_sched.proofs.Sound.{sound_woken, sound_left, sound_stopped, sound_ticked, sound_later, sound_with_weight, sound_removed, sound_own_weight}
use Rattle.scx_sched.proofs.Parking.{sound_let_go, sound_used_ms, sound_begun_periods}
use Rattle.scx_sched.proofs.Bounded.{within_used, within_used_up, within_turned, within_reweighed, most_used, most_turned, within_own}
use Rattle.scx_sched.proofs.Homes.{home_is_there, lowest_is_there, home_may, choice_may, target_may}
use Rattle.scx_sched.proofs.Stepwise.{told_no_choice, Stays, stays_walked, owns_all, walk_heard, walk_fires, walk_with_rounds, walk_fire_all, walk_takes_weight, walk_changes_weight, walk_reweigh_running}
use Rattle.scx_sched.proofs.Skeleton.{keeps_eject, keeps_call_back, keeps_call_by_linux, keeps_waker, keeps_calls, keeps_goes_off, keeps_settled, keeps_homed, keeps_kicked_if_idle, keeps_timer, due_started}
use Rattle.scx_sched.proofs.Clear.{tree_free, tree_used_up}
use Rattle.scx_sched.proofs.Ready.{calm_call_back, linux_in_force, not_out}
use Rattle.scx_sched.proofs.Remembering.{remembers}
use Rattle.scx_sched.proofs.Unchanged.{same_linux}
use Rattle.scx_sched.proofs.Blaming.{honest_call_back, honest_leaves_cpu, honest_heard, IsHonest, honest_call_by_linux, honest_leaves_queue}
use Rattle.scx_sched.proofs.Cycles.{IsKeptInside, keeps_park, keeps_cycle, keeps_put_at}
use Rattle.scx_sched.proofs.Letting.{LetsGo, keeps_let_all_go}
use Rattle.scx_sched.proofs.Fine.{IsRange, range_of, range_task, range_same, fine_of, fine_steps}
use Rattle.scx_sched.specs.Allowed.{MayGo, IsAllowedIn}
use Rattle.scx_sched.proofs.Placing.{may_as, goes_for, may_put}
use Rattle.scx_sched.proofs.Allowing.{allowed_same, allowed_left, allowed_woken, allowed_asleep, allowed_let_go, allowed_weighed, allowed_used, allowed_later, allowed_stopped}
use Rattle.scx_sched.proofs.AtHand.{task_called}

-- What an event makes of a task before it comes to small steps. Whoever keeps these too keeps events; the fact
-- says at least where each task is.
pub record IsKeptByEvents (n : ℕ) (I : ℕ → Option ℕ → List (Option ℕ) → WorldState → Type 0) : Type 0 where
  pub steps : IsKeptBySteps n I
  pub sound : (m : ℕ) (hand : Option ℕ) (on : List (Option ℕ)) (w : WorldState) → I m hand on w → IsSound hand on n w
  pub allowed : (m : ℕ) (hand : Option ℕ) (on : List (Option ℕ)) (w : WorldState) → I m hand on w → IsAllowedIn on n w
  pub woken : (m : ℕ) (on : List (Option ℕ)) (w : WorldState) (t : ℕ) → t < n → is_runnable w t ≡ false → I m None on w → I m (Some t) on (after_wake w t)
  pub let_go : LetsGo n I
  pub left : (m : ℕ) (on : List (Option ℕ)) (w : WorldState) (t : ℕ) → t < n → is_runnable w t ≡ true → cpu_of w t ≡ None → I m None on w → I m None on (after_sleep (after_leave w t) t)
  pub removed : (m : ℕ) (on : List (Option ℕ)) (w : WorldState) (t : ℕ) → t < n → waits w t ≡ true → I m None on w → I m (Some t) on (after_leave w t)
  pub weighed : (m : ℕ) (hand : Option ℕ) (on : List (Option ℕ)) (w : WorldState) (t x : ℕ) → I m hand on w → I m hand on (after_own_weight w t x)
  -- while the policy is in force nobody was charged yet, so that the number may be said anew
  pub anew : (m k : ℕ) (on : List (Option ℕ)) (w : WorldState) → w.ejected ≡ None → I m None on w → I k None on w

-- what events keep is kept inside of them
pub inside_of : (n : ℕ) (I : ℕ → Option ℕ → List (Option ℕ) → WorldState → Type 0) → IsKeptByEvents n I → IsKeptInside n I
inside_of n I k = record { steps = k.steps; sound = k.sound; allowed = k.allowed }

-- a millisecond that is counted moves nobody
pub cpus_used : (w : WorldState) (t : ℕ) → (used_ms w t).cpus ≡ w.cpus
cpus_used w t = keeps_if (λ (x : WorldState). x.cpus ≡ w.cpus) (nat_lt t (length w.tasks)) (with_tree w (with_use w.tree t)) w refl refl

-- ---- processors that there are

chosen_is_there : (w : WorldState) (t c : ℕ) → (task_at w t).prev_cpu < length w.cpus → choice w t ≡ Some c → c < length w.cpus
chosen_is_there w t c home e = tracked w.tracks_idle e
  where
    same : (a b : ℕ) → Some a ≡ Some b → a ≡ b
    same a b x = cc

    go : (b : Bool) → (if b then Some (task_at w t).prev_cpu else lowest_cpu w (is_free_for w t)) ≡ Some c → c < length w.cpus
    go true x = omega (arith, home, same (task_at w t).prev_cpu c x)
    go false x = lowest_is_there (length w.cpus) (is_free_for w t) c x

    tracked : (b : Bool) → (if b then free_choice w t else None) ≡ Some c → c < length w.cpus
    tracked true x = go (is_free_for w t (task_at w t).prev_cpu) x
    tracked false x = absurd (cc)

choice_is_there : (w : WorldState) (t : ℕ) → (task_at w t).prev_cpu < length w.cpus → default_choice w t < length w.cpus
choice_is_there w t home = go (choice w t) refl
  where
    go : (o : Option ℕ) → choice w t ≡ o → unwrap_or o (task_at w t).prev_cpu < length w.cpus
    go None e = home
    go (Some c) e = chosen_is_there w t c home e

target_is_there : (p : Option VerifiedProgram) (w : WorldState) (t : ℕ) (a : Option ℕ) → (task_at w t).prev_cpu < length w.cpus → target p w t a < length w.cpus
target_is_there None w t a home = choice_is_there w t home
target_is_there (Some p) w t None home = choice_is_there w t home
target_is_there (Some p) w t (Some c) home = go (nat_lt c (length w.cpus)) refl
  where
    go : (b : Bool) → nat_lt c (length w.cpus) ≡ b → (if b then cpu_or_home w t c else default_choice w t) < length w.cpus
    go true x = keeps_if (λ d. d < length w.cpus) (may_run w t c) c (first_home w t) (grind (arith, nat_tests, x)) (home_is_there w t (omega (arith, home)))
    go false x = choice_is_there w t home

pub idle_there : (w : WorldState) (c : ℕ) → is_idle w c ≡ true → c < length w.cpus
idle_there w c e = go (nat_lt c (length w.cpus)) refl (is_none (get_or w.cpus c None)) (not (is_this c w.cycling)) e
  where
    go : (b : Bool) → nat_lt c (length w.cpus) ≡ b → (o d : Bool) → (b && o && d) ≡ true → c < length w.cpus
    go true x o d e = grind (arith, nat_tests, x)
    go false x o d e = absurd (cc)

idle_is_free : (w : WorldState) (c : ℕ) → is_idle w c ≡ true → get_or w.cpus c None ≡ None
idle_is_free w c e = go (nat_lt c (length w.cpus)) (get_or w.cpus c None) (not (is_this c w.cycling)) e
  where
    go : (b : Bool) (o : Option ℕ) (d : Bool) → (b && is_none o && d) ≡ true → o ≡ None
    go true None d e = refl
    go true (Some t) d e = absurd (cc)
    go false o d e = absurd (cc)

-- ---- who looks for work

pending_there : (n c : ℕ) (w : WorldState) → pending_below n w ≡ Some c → c < n
unfolding pending_below
pending_there zero c w e = absurd (cc)
pending_there (suc n) c w e = go (pending_below n w) (λ x. pending_there n c w x) (is_pending w n) e
  where
    go : (o : Option ℕ) → (o ≡ Some c → c < n) → (b : Bool) → or_this o (this_if b n) ≡ Some c → c < suc n
    go (Some d) f b x = omega (arith, f x)
    go None f true x = let is : n ≡ c = ap (λ o. unwrap_or o n) x in omega (arith, is)
    go None f false x = absurd (cc)

-- a processor looks for work by Linux rules alone, and is there
record LooksForWork (s : State) (c : ℕ) : Type 0 where
  pub linux : is_by_linux s ≡ true
  pub there : c < length s.world.cpus

looks_there : (s : State) (c : ℕ) → next_to_look s ≡ Some c → LooksForWork s c
unfolding next_to_look
looks_there s c e = go (is_by_linux s) refl e
  where
    go : (b : Bool) → is_by_linux s ≡ b → (if b then first_pending s.world else None) ≡ Some c → LooksForWork s c
    go true x y = record { linux = x; there = pending_there (length s.world.cpus) c s.world y }
    go false x y = absurd (cc)

-- the task that is the given one is given
pub is_task : (t : ℕ) (o : Option ℕ) → is_this t o ≡ true → o ≡ Some t
is_task t None e = absurd (cc)
is_task t (Some u) e = let same : t ≡ u = grind (arith, nat_tests, e) in ap Some (sym same)

-- who runs is a task that there is
running_is_there : (n : ℕ) (w : WorldState) (c t : ℕ) → c < length w.cpus → get_or w.cpus c None ≡ Some t → IsSound None w.cpus n w → t < n
running_is_there n w c t l at h = go (cases_lt t n)
  where
    one : one_if (is_this t (get_or w.cpus c None)) ≡ 1
    one = rw (at, eq-eqb t t refl) refl

    go : (t < n) ⊎ (n ≤ t) → t < n
    go (inl l) = l
    go (inr past) =
        let none : is_runnable w t ≡ false = get_or_past w.tree.active t false (omega (arith, past, h.flags)) in
        absurd (omega (arith, h.once t, ap one_if none, one, sum_by-set (λ o. one_if (is_this t o)) w.cpus c None None l))

-- who is in a policy's custody waits
pub custody_waits : (w : WorldState) (t : ℕ) → is_in_custody w t ≡ true → waits w t ≡ true
custody_waits w t e = go (queue_of w.queues t) e
  where
    apart_or : (q : ℕ) (a b : Bool) → nat_lt q policy_end ≡ a → (q == held_queue) ≡ b → (a || b) ≡ true → q ≡ parked_queue → ⊥
    apart_or q true b x y z is = let low : q < policy_end = grind (arith, nat_tests, x) in omega (arith, low, is)
    apart_or q false true x y z is = let held : q ≡ held_queue = grind (arith, nat_tests, y) in omega (arith, held, is)
    apart_or q false false x y z is = absurd (cc)

    go : (o : Option ℕ) → is_custody o ≡ true → waits_in o ≡ true
    go None x = absurd (cc)
    go (Some q) x = ap (λ b. not b) (ne_eqb q parked_queue (apart_or q (nat_lt q policy_end) (q == held_queue) refl refl x))

module _ (n : ℕ) (I : ℕ → Option ℕ → List (Option ℕ) → WorldState → Type 0) (k : IsKeptByEvents n I) where
  -- who runs where is what the world says
  pub keeps_now : (m : ℕ) (w : WorldState) → (on : List (Option ℕ)) × I m None on w → I m None w.cpus w
  keeps_now m w (on, h) = subst (λ xs. I m None xs w) (sym (k.sound m None on w h).cpus) h

  -- ---- wake

  keeps_wake_target : (m : ℕ) (on : List (Option ℕ)) (s : State) (c : ℕ) → c < length on → I m None on s.world → I m None (wake_target s c).state.world.cpus (wake_target s c).state.world
  unfolding wake_target
  keeps_wake_target m on s c l h =
      keeps_if Kept (is_by_linux s) (stays (kicked_if_idle (woken s) c)) (if is_idle s.world c then cycle s c None false else stays s)
      (keeps_now m (kicked_if_idle (woken s) c).world (on, keeps_kicked_if_idle n I k.steps m None on (woken s) c (keeps_waker n I k.steps m None on s.world None (λ d e. absurd (cc)) h))) (go (is_idle s.world c) refl)
    where
      Kept : Stepped → Type 0
      Kept r = I m None r.state.world.cpus r.state.world

      free : is_idle s.world c ≡ true → get_or on c None ≡ None
      free idle = subst (λ (xs : List (Option ℕ)). get_or xs c None ≡ None) (k.sound m None on s.world h).cpus (idle_is_free s.world c idle)

      go : (b : Bool) → is_idle s.world c ≡ b → Kept (if b then cycle s c None false else stays s)
      go true idle = keeps_now m _ (keeps_cycle n I (inside_of n I k) m on s c None false l tt (free idle) h)
      go false idle = keeps_now m s.world (on, h)

  keeps_comes_to : (m : ℕ) (on : List (Option ℕ)) (o : Option Insert) (s : State) (t c : ℕ) → ((i : Insert) → o ≡ Some i → IsWanted (length on) s.world (for_cpu c i) × MayGo (length on) s.world t (for_cpu c i)) → may_run s.world t c ≡ true → t < n → c < length on → I m (Some t) on s.world → I m None (comes_to o s t c).state.world.cpus (comes_to o s t c).state.world
  unfolding comes_to
  keeps_comes_to m on o s t c may here within l h =
      let r = (call_back s callback.Enqueue (task_and_number t 1) t c).state in
      keeps_wake_target m on (insert_or_put o s t c).state c l (keeps_settled n I k.steps m on o s t c may (may_put on n s t c 1 here (k.allowed m (Some t) on r.world (keeps_call_back n I k.steps m (Some t) on s callback.Enqueue (task_and_number t 1) t c l h))) within l h)

  -- what select_cpu inserted may still be done once the policy has heard that the task is runnable
  may_still : (m : ℕ) (on : List (Option ℕ)) (s : State) (t c : ℕ) (i : Insert) → c < length on → s.world.call.insert ≡ Some i → I m (Some t) on s.world → is_ejected (call_by_linux s callback.Runnable (task_and_number t 1) t c).state ≡ false → IsWanted (length on) (call_by_linux s callback.Runnable (task_and_number t 1) t c).state.world (for_cpu c i)
  unfolding call_by_linux
  may_still m on s t c i l said h force = go (is_by_linux s) (is_some (program_of s.policy callback.Runnable)) refl force
    where
      r : Stepped
      r = call_back s callback.Runnable (task_and_number t 1) t c

      goes : GoesSomewhere s.world.queues (length on) (Some i)
      goes = subst (λ (o : Option Insert). GoesSomewhere s.world.queues (length on) o) said (k.sound m (Some t) on s.world h).goes

      go : (a b : Bool) → is_by_linux s ≡ a → is_ejected (if a && b then r else stays s).state ≡ false → IsWanted (length on) (if a && b then r else stays s).state.world (for_cpu c i)
      go true true linux force =
          let x = remembers (length on) (Some i) s (task_and_number t 1) t c goes force in
          Before c i l (same_linux s.world r.state.world (honest_call_back s callback.Runnable (task_and_number t 1) t c (λ e. absurd (cc))).rules (not_out r.state force ∙ sym (linux_in_force s linux)) ∙ linux) x.1 x.2 refl
      go true false linux force = Inserted c i l said refl
      go false b linux force = Inserted c i l said refl

  -- it still goes where the task may run
  still_goes : (on : List (Option ℕ)) (s : State) (t c : ℕ) (i : Insert) → MayGo (length on) s.world t (for_cpu c i) → MayGo (length on) (call_by_linux s callback.Runnable (task_and_number t 1) t c).state.world t (for_cpu c i)
  still_goes on s t c i goes d l e =
      let r = (call_by_linux s callback.Runnable (task_and_number t 1) t c).state in
      let x = honest_call_by_linux s callback.Runnable (task_and_number t 1) t c (λ e. absurd (cc)) in
      may_as s.world r.world x.rules (ap (λ y. y.masks) x.tree) t d (goes d l e)

  keeps_told_runnable : (m : ℕ) (on : List (Option ℕ)) (s : State) (t c : ℕ) → ((i : Insert) → s.world.call.insert ≡ Some i → MayGo (length on) s.world t (for_cpu c i)) → may_run s.world t c ≡ true → t < n → c < length on → I m (Some t) on s.world → I m None (told_runnable s.world.call.insert s t c).state.world.cpus (told_runnable s.world.call.insert s t c).state.world
  unfolding told_runnable
  keeps_told_runnable m on s t c goes here within l h = keeps_comes_to m on (while_in_force r i) r t c may (may_as s.world r.world honest.rules (ap (λ y. y.masks) honest.tree) t c here) within l (keeps_call_by_linux n I k.steps m (Some t) on s callback.Runnable (task_and_number t 1) t c l h)
    where
      r : State
      r = (call_by_linux s callback.Runnable (task_and_number t 1) t c).state

      honest : IsHonest s (call_by_linux s callback.Runnable (task_and_number t 1) t c)
      honest = honest_call_by_linux s callback.Runnable (task_and_number t 1) t c (λ e. absurd (cc))

      i : Option Insert
      i = s.world.call.insert

      may : (j : Insert) → while_in_force r i ≡ Some j → IsWanted (length on) r.world (for_cpu c j) × MayGo (length on) r.world t (for_cpu c j)
      may j e = go (is_ejected r) refl e
        where
          go : (b : Bool) → is_ejected r ≡ b → (if b then None else i) ≡ Some j → IsWanted (length on) r.world (for_cpu c j) × MayGo (length on) r.world t (for_cpu c j)
          go true out x = absurd (cc)
          go false force x = (may_still m on s t c j l x h force, still_goes on s t c j (goes j x))

  -- a task's processor becomes one on which it may run
  may_homed : (w : WorldState) (t c d : ℕ) → may_run w t d ≡ true → may_run (homed w t c) t d ≡ true
  may_homed w t c d may = keeps_if (λ (v : WorldState). may_run v t d ≡ true) (world.is_by_linux w) _ w may may

  of_homed : (w : WorldState) (t c : ℕ) → w.call.task ≡ t → (homed w t c).call.task ≡ t
  of_homed w t c is = keeps_if (λ (v : WorldState). v.call.task ≡ t) (world.is_by_linux w) _ w is is

  keeps_settle : (m : ℕ) (on : List (Option ℕ)) (s : State) (t c : ℕ) → s.world.call.task ≡ t → may_run s.world t c ≡ true → t < n → c < length on → I m (Some t) on s.world → I m None (settle s t c).state.world.cpus (settle s t c).state.world
  unfolding settle
  keeps_settle m on s t c is may within l h =
      let v = with_world s (homed s.world t c) in
      let i = v.world.call.insert in
      let x = keeps_homed n I k.steps m (Some t) on s.world t c l may h in
      let here = may_homed s.world t c c may in
      let goes : (j : Insert) → i ≡ Some j → MayGo (length on) v.world t (for_cpu c j) = λ j e. goes_for (length on) v.world t c j here (subst (λ u. MayGo (length on) v.world u j) (of_homed s.world t c is) ((k.allowed m (Some t) on v.world x).asks j e)) in
      keeps_if (λ (r : Stepped). I m None r.state.world.cpus r.state.world) (is_by_linux v) (told_runnable i v t c) (comes_to i v t c) (keeps_told_runnable m on v t c goes here within l x)
      (keeps_comes_to m on i v t c (λ j e. (Inserted c j l e refl, goes j e)) here within l x)

  -- a processor that is chosen by default
  keeps_chosen : (m : ℕ) (on : List (Option ℕ)) (p : Option VerifiedProgram) (s : State) (t : ℕ) → s.world.call.task ≡ t → is_dispatch s.world.call.callback ≡ false → I m (Some t) on s.world → I m (Some t) on (chosen p s t).world
  keeps_chosen m on (Some p) s t is calm h = h
  keeps_chosen m on None s t is calm h = keeps_if (I m (Some t) on) (world.is_by_linux w) (inserted_by_choice (after_claim w (choice w t)) (choice w t)) w (go (choice w t) refl) h
    where
      w : WorldState
      w = s.world

      sound : IsSound (Some t) on n w
      sound = k.sound m (Some t) on w h

      claimed : (c : ℕ) → I m (Some t) on (after_claim w (Some c))
      claimed c = keeps_if (I m (Some t) on) (world.is_by_linux w) _ w (k.steps.sets m (Some t) on w (and_cpu w.claimed c) w.kicked w.preempted (and_cpu w.call.claims c) w.passing (λ d e. e) h) h

      still : (c : ℕ) → is_dispatch (after_claim w (Some c)).call.callback ≡ false
      still c = keeps_if (λ (v : WorldState). is_dispatch v.call.callback ≡ false) (world.is_by_linux w) _ w calm calm

      go : (o : Option ℕ) → choice w t ≡ o → I m (Some t) on (inserted_by_choice (after_claim w o) o)
      go None e = h
      go (Some c) e =
          let l : c < length on = subst (λ (xs : List (Option ℕ)). c < length xs) sound.cpus (chosen_is_there w t c (rw sound.cpus (sound.homes t)) e) in
          let may : may_run w w.call.task c ≡ true = ap (λ u. may_run w u c) is ∙ choice_may w t c e in
          k.steps.wants m (Some t) on (after_claim w (Some c)) c l (still c) (keeps_if (λ (v : WorldState). may_run v v.call.task c ≡ true) (world.is_by_linux w) _ w may may) (claimed c)

  -- a choice changes neither the task at hand nor where it may run
  of_chosen : (p : Option VerifiedProgram) (s : State) (t : ℕ) → s.world.call.task ≡ t → (chosen p s t).world.call.task ≡ t
  of_chosen (Some p) s t is = is
  of_chosen None s t is = keeps_if (λ (v : WorldState). v.call.task ≡ t) (world.is_by_linux s.world) (inserted_by_choice (after_claim s.world (choice s.world t)) (choice s.world t)) s.world (go (choice s.world t)) is
    where
      go : (o : Option ℕ) → (inserted_by_choice (after_claim s.world o) o).call.task ≡ t
      go None = is
      go (Some c) = keeps_if (λ (v : WorldState). v.call.task ≡ t) (world.is_by_linux s.world) _ s.world is is

  may_chosen : (p : Option VerifiedProgram) (s : State) (t d : ℕ) → may_run s.world t d ≡ true → may_run (chosen p s t).world t d ≡ true
  may_chosen (Some p) s t d may = may
  may_chosen None s t d may = keeps_if (λ (v : WorldState). may_run v t d ≡ true) (world.is_by_linux s.world) (inserted_by_choice (after_claim s.world (choice s.world t)) (choice s.world t)) s.world (go (choice s.world t)) may
    where
      go : (o : Option ℕ) → may_run (inserted_by_choice (after_claim s.world o) o) t d ≡ true
      go None = may
      go (Some c) = keeps_if (λ (v : WorldState). may_run v t d ≡ true) (world.is_by_linux s.world) _ s.world may may

  keeps_ask_target : (m : ℕ) (on : List (Option ℕ)) (s : State) (t : ℕ) → t < n → I m (Some t) on s.world → I m None (ask_target s t).state.world.cpus (ask_target s t).state.world
  unfolding ask_target
  keeps_ask_target m on s t within h = keeps_settle m on (chosen p r.state t) t (target p r.state.world t a) (of_chosen p r.state t is) (may_chosen p r.state t (target p r.state.world t a) may) within l (keeps_chosen m on p r.state t is (calm_call_back s callback.SelectCpu (task_cpu_and_0 t c) t c refl) x)
    where
      c : ℕ
      c = (task_at s.world t).prev_cpu

      r : Stepped
      r = call_back s callback.SelectCpu (task_cpu_and_0 t c) t c

      p : Option VerifiedProgram
      p = acting r.state callback.SelectCpu

      a : Option ℕ
      a = answered_by s callback.SelectCpu (task_cpu_and_0 t c) t c

      x : I m (Some t) on r.state.world
      x = keeps_call_back n I k.steps m (Some t) on s callback.SelectCpu (task_cpu_and_0 t c) t c ((k.sound m (Some t) on s.world h).homes t) h

      y : IsSound (Some t) on n r.state.world
      y = k.sound m (Some t) on r.state.world x

      is : r.state.world.call.task ≡ t
      is = task_called s callback.SelectCpu (task_cpu_and_0 t c) t c

      may : may_run r.state.world t (target p r.state.world t a) ≡ true
      may = target_may p r.state.world t a (rw y.cpus (y.homes t)) ((k.allowed m (Some t) on r.state.world x).home t within)

      l : target p r.state.world t a < length on
      l = subst (λ (xs : List (Option ℕ)). target p r.state.world t a < length xs) y.cpus (target_is_there p r.state.world t a (rw y.cpus (y.homes t)))

  keeps_select : (m : ℕ) (on : List (Option ℕ)) (s : State) (t : ℕ) → t < n → I m (Some t) on s.world → I m None (select s t).state.world.cpus (select s t).state.world
  unfolding select settle_at_home
  keeps_select m on s t within h =
      keeps_if (λ (r : Stepped). I m None r.state.world.cpus r.state.world) (asks_target s t) (ask_target s t) (settle_at_home s t c) (keeps_ask_target m on s t within h)
      (keeps_settle m on (with_world s (at_callback s.world callback.SelectCpu t c)) t c refl (home_may s.world t (task_at s.world t).prev_cpu home ((k.allowed m (Some t) on s.world h).home t within)) within l (k.steps.begun m (Some t) on s.world callback.SelectCpu t c l h))
    where
      c : ℕ
      c = first_home s.world t

      sound : IsSound (Some t) on n s.world
      sound = k.sound m (Some t) on s.world h

      home : (task_at s.world t).prev_cpu < length s.world.cpus
      home = rw sound.cpus (sound.homes t)

      l : c < length on
      l = subst (λ (xs : List (Option ℕ)). c < length xs) sound.cpus (home_is_there s.world t (omega (arith, home)))

  -- a task that is woken from a processor
  keeps_from_waker : (m : ℕ) (on : List (Option ℕ)) (s : State) (t : ℕ) → I m (Some t) on s.world → I m (Some t) on (from_waker s t).world
  unfolding from_waker
  keeps_from_waker m on s t h =
      let o = Some (task_at s.world t).prev_cpu in
      keeps_if (λ (r : State). I m (Some t) on r.world) (is_by_linux s) (with_world s (with_waker s.world o)) s (keeps_waker n I k.steps m (Some t) on s.world o (λ c e. subst (λ d. d < length on) (same e) ((k.sound m (Some t) on s.world h).homes t)) h) h
    where
      same : {a b : ℕ} → Some a ≡ Some b → a ≡ b
      same e = cc

  -- a task that wakes
  pub keeps_wake : (m : ℕ) (s : State) (t : ℕ) → t < n → is_runnable s.world t ≡ false → I m None s.world.cpus s.world → I m None (wake s t).state.world.cpus (wake s t).state.world
  unfolding wake
  keeps_wake m s t within resting h =
      let v = with_world s (after_wake s.world t) in
      keeps_select m s.world.cpus (from_waker v t) t within (keeps_from_waker m s.world.cpus v t (k.woken m s.world.cpus s.world t within resting h))

  -- ---- sleep

  -- dispatch is to be told of the task
  keeps_told : (m : ℕ) (on : List (Option ℕ)) (s : State) (t : ℕ) → I m None on s.world → I m None on (told_of_sleep s t).world
  unfolding told_of_sleep
  keeps_told m on s t h = keeps_if (λ (r : State). I m None on r.world) (is_by_linux s) (with_world s (with_slept s.world t)) s (k.steps.sets m None on s.world s.world.claimed s.world.kicked s.world.preempted s.world.call.claims (record s.world.passing { slept = Some t }) (λ d e. e) h) h

  -- a task that leaves its processor has been the current one there
  keeps_stop_switch : (m : ℕ) (on : List (Option ℕ)) (w : WorldState) (c t : ℕ) → I m (Some t) on (after_stop w c t) → I m (Some t) on (after_stop (with_switch w c) c t)
  keeps_stop_switch m on w c t h =
      let x = record w.passing { switching = switch_at w c } in
      keeps_if (λ (v : WorldState). I m (Some t) on (after_stop v c t)) (world.is_by_linux w) (record w { passing = x }) w (k.steps.sets m (Some t) on (after_stop w c t) w.claimed w.kicked w.preempted w.call.claims x (λ d e. e) h) h

  pub keeps_leaves_cpu : (m : ℕ) (on : List (Option ℕ)) (s : State) (c t x : ℕ) → c < length on → I m (Some t) on (after_stop s.world c t) → I (m + 1) (Some t) on (leaves_cpu s c t x).state.world
  unfolding leaves_cpu
  keeps_leaves_cpu m on s c t x l h = keeps_goes_off n I k.steps m (Some t) on (with_world s (with_switch s.world c)) c t x l (keeps_stop_switch m on s.world c t h)

  -- a task sleeps, and the policy hears of it
  keeps_falls_asleep : (m : ℕ) (on : List (Option ℕ)) (s : State) (t c : ℕ) → c < length on → I m None on (after_sleep s.world t) → I m None on (falls_asleep s t c).state.world
  unfolding falls_asleep
  keeps_falls_asleep m on s t c l h = keeps_call_by_linux n I k.steps m None on (with_world s (after_sleep s.world t)) callback.Quiescent (task_and_number t 1) t c l h

  -- the processor that a task has left looks for another
  keeps_cycle_off : (m : ℕ) (on : List (Option ℕ)) (s : State) (c : ℕ) → c < length on → I m None (set on c None) s.world → I m None (cycle s c None true).state.world.cpus (cycle s c None true).state.world
  keeps_cycle_off m on s c l h = keeps_now m _ (keeps_cycle n I (inside_of n I k) m (set on c None) s c None true (rw (length-set on c None) l) tt (get_or-set_same on c None None l) h)

  keeps_sleep_from_cpu : (m : ℕ) (s : State) (t c : ℕ) → t < n → c < length s.world.cpus → get_or s.world.cpus c None ≡ Some t → I m None s.world.cpus s.world → I (m + 1) None (sleep_from_cpu s t c).state.world.cpus (sleep_from_cpu s t c).state.world
  unfolding sleep_from_cpu looks_after_sleep
  keeps_sleep_from_cpu m s t c within l runs h = keeps_cycle_off (m + 1) s.world.cpus (told_of_sleep q t) c l (keeps_told (m + 1) on q t down)
    where
      on : List (Option ℕ)
      on = set s.world.cpus c None

      l' : c < length on
      l' = rw (length-set s.world.cpus c None) l

      r : State
      r = (leaves_cpu s c t 0).state

      q : State
      q = (falls_asleep r t c).state

      off : I (m + 1) (Some t) on r.world
      off = keeps_leaves_cpu m on s c t 0 l' (k.steps.stopped m s.world.cpus s.world c t l within runs h)

      down : I (m + 1) None on q.world
      down = keeps_falls_asleep (m + 1) on r t c l' (k.steps.asleep (m + 1) on r.world t within off)

  -- a task that left its queue, and the policy hears of it
  keeps_tells_dequeued : (m : ℕ) (on : List (Option ℕ)) (b : Bool) (s : State) (t c flags : ℕ) → c < length on → I m (Some t) on s.world → I m (Some t) on (tells_dequeued_if b s t c flags).state.world
  unfolding tells_dequeued
  keeps_tells_dequeued m on true s t c flags l h = keeps_call_by_linux n I k.steps m (Some t) on s callback.Dequeue (task_and_number t flags) t c l h
  keeps_tells_dequeued m on false s t c flags l h = h

  -- a task that waits leaves its queue
  pub keeps_leaves_queue : (m : ℕ) (on : List (Option ℕ)) (s : State) (t c flags : ℕ) → t < n → c < length on → waits s.world t ≡ true → I m None on s.world → I m (Some t) on (leaves_queue s t c flags).state.world
  unfolding leaves_queue
  keeps_leaves_queue m on s t c flags within l here h = keeps_tells_dequeued m on (is_in_custody s.world t) (with_world s (after_leave s.world t)) t c flags l (k.removed m on s.world t within here h)

  -- and sleeps
  keeps_sleep_from_queue : (m : ℕ) (on : List (Option ℕ)) (s : State) (t c : ℕ) → t < n → c < length on → is_runnable s.world t ≡ true → cpu_of s.world t ≡ None → I m None on s.world → I m None on (sleep_from_queue s t c).state.world
  unfolding sleep_from_queue leaves_queue
  keeps_sleep_from_queue m on s t c within l runnable off h = go (is_in_custody s.world t) refl
    where
      v : State
      v = with_world s (after_leave s.world t)

      go : (b : Bool) → is_in_custody s.world t ≡ b → I m None on (falls_asleep (tells_dequeued_if b v t c 1).state t c).state.world
      go true e =
          let r = tells_dequeued_if true v t c 1 in
          keeps_falls_asleep m on r.state t c l (k.steps.asleep m on r.state.world t within (keeps_tells_dequeued m on true v t c 1 l (k.removed m on s.world t within (custody_waits s.world t e) h)))
      go false e = keeps_falls_asleep m on v t c l (k.left m on s.world t within runnable off h)

  -- a task that goes to sleep
  pub keeps_sleep : (m : ℕ) (s : State) (t : ℕ) → t < n → is_runnable s.world t ≡ true → I m None s.world.cpus s.world → I (m + 1) None (sleep s t).state.world.cpus (sleep s t).state.world
  unfolding sleep
  keeps_sleep m s t within runnable h = go (cpu_of s.world t) refl
    where
      go : (o : Option ℕ) → cpu_of s.world t ≡ o → I (m + 1) None (sleep_from o s t).state.world.cpus (sleep_from o s t).state.world
      go None off =
          let home : (task_at s.world t).prev_cpu < length s.world.cpus = (k.sound m None s.world.cpus s.world h).homes t in
          keeps_now (m + 1) _ (s.world.cpus, k.steps.more m None s.world.cpus _ (keeps_sleep_from_queue m s.world.cpus s t (task_at s.world t).prev_cpu within home runnable off h))
      go (Some c) at =
          let x = position-Some (is_this t) s.world.cpus c None at in
          keeps_sleep_from_cpu m s t c within x.0 (is_task t (get_or s.world.cpus c None) x.1) h

  -- ---- tick

  pub keeps_cycle_now : (m : ℕ) (s : State) (c : ℕ) (p : Option ℕ) (ran : Bool) → c < length s.world.cpus → get_or s.world.cpus c None ≡ p → I m None s.world.cpus s.world → I (m + 1) None (cycle s c p ran).state.world.cpus (cycle s c p ran).state.world
  keeps_cycle_now m s c None ran l at h = k.steps.more m None _ _ (keeps_now m _ (keeps_cycle n I (inside_of n I k) m s.world.cpus s c None ran l tt at h))
  keeps_cycle_now m s c (Some t) ran l at h = keeps_now (m + 1) _ (keeps_cycle n I (inside_of n I k) m s.world.cpus s c (Some t) ran l (running_is_there n s.world c t l at (k.sound m None s.world.cpus s.world h)) at h)

  -- ---- rounds

  -- a cycle that begins while the policy is in force, of whatever processor and after however many others, charges one
  -- task at most since the event began
  pub keeps_cycle_anew : (m j : ℕ) (s : State) (c : ℕ) (p : Option ℕ) (ran : Bool) → s.world.ejected ≡ None → c < length s.world.cpus → get_or s.world.cpus c None ≡ p → I j None s.world.cpus s.world → I (m + 1) None (cycle s c p ran).state.world.cpus (cycle s c p ran).state.world
  keeps_cycle_anew m j s c p ran force l at h = keeps_cycle_now m s c p ran l at (k.anew j m s.world.cpus s.world force h)

  -- what holds once an event has charged one task at most
  abbrev Charged : ℕ → State → Type 0
  Charged m s = I (m + 1) None s.world.cpus s.world

  -- a task goes on, or is replaced
  keeps_look_past : (m : ℕ) (s : State) (c t : ℕ) → s.world.ejected ≡ None → c < length s.world.cpus → get_or s.world.cpus c None ≡ Some t → Charged m s → Charged m (look_past s c t).state
  unfolding look_past
  keeps_look_past m s c t force l at h = keeps_if (λ (r : Stepped). Charged m r.state) ((task_at s.world t).slice == 0) (cycle s c (Some t) true) (stays s) (keeps_cycle_anew m (m + 1) s c (Some t) true force l at h) h

  -- a processor that looks for work
  keeps_round : (m : ℕ) (s : State) (c : ℕ) → s.world.ejected ≡ None → c < length s.world.cpus → Charged m s → Charged m (round s c).state
  unfolding round
  keeps_round m s c force l h = go (running s.world c) refl
    where
      v : State
      v = with_world s (without_kick s.world c)

      kept : Charged m v
      kept = k.steps.sets (m + 1) None s.world.cpus s.world s.world.claimed (but_cpu s.world.kicked c) (but_cpu s.world.preempted c) s.world.call.claims s.world.passing (λ d e. e) h

      cut : (b : Bool) (t : ℕ) → running s.world c ≡ Some t → Charged m (look_past (cut_off_if b v t) c t).state
      cut false t at = keeps_look_past m v c t force l at kept
      cut true t at = keeps_look_past m (with_world v (after_cut_off v.world t)) c t force l at (k.steps.sliced (m + 1) None s.world.cpus v.world t 0 kept)

      go : (o : Option ℕ) → running s.world c ≡ o → Charged m (look_from o (is_in_set s.world.preempted c) v c).state
      go None at = keeps_cycle_anew m (m + 1) v c None false force l at kept
      go (Some t) at = cut (is_in_set s.world.preempted c) t at

  -- the rounds of an event charge no task more: while the policy is in force none was charged, and then no round follows
  pub keeps_with_rounds : (m : ℕ) (r : Stepped) → Charged m r.state → Charged m (with_rounds r).state
  keeps_with_rounds m r h =
      let P = λ (w : WorldState). I (m + 1) None w.cpus w in
      walk_with_rounds (Stays P) (stays_walked P) (λ s c e x. let y = looks_there s c e in keeps_round m s c (linux_in_force s y.linux) y.there x) (Stays P) (stays_walked P).joined r.state r (λ x. x) h

  -- a task that may not run any more leaves and is parked
  keeps_throttle : (m : ℕ) (s : State) (c t : ℕ) → t < n → c < length s.world.cpus → limits.is_throttled s.world.tree t ≡ true → I m (Some t) (set s.world.cpus c None) (after_stop s.world c t) → I (m + 1) None (throttle s c t).state.world.cpus (throttle s c t).state.world
  unfolding throttle
  keeps_throttle m s c t within l throttled h =
      let left = keeps_leaves_cpu m (set s.world.cpus c None) s c t 1 (rw (length-set s.world.cpus c None) l) h in
      let r = (leaves_cpu s c t 1).state in
      keeps_cycle_off (m + 1) s.world.cpus (park r t).state c l (keeps_park n I (inside_of n I k) (m + 1) (set s.world.cpus c None) r t within (ap (λ x. limits.is_throttled x t) (honest_leaves_cpu s c t 1).tree ∙ throttled) left)

  keeps_expire : (m : ℕ) (s : State) (c t : ℕ) → c < length s.world.cpus → get_or s.world.cpus c None ≡ Some t → I m None s.world.cpus s.world → I (m + 1) None (expire s c t).state.world.cpus (expire s c t).state.world
  unfolding expire
  keeps_expire m s c t l at h =
      keeps_if (λ (r : Stepped). I (m + 1) None r.state.world.cpus r.state.world) (((task_at s.world t).slice == 0) && ends_slices s) (cycle s c (Some t) true) (stays s) (keeps_cycle_now m s c (Some t) true l at h) (k.steps.more m None s.world.cpus s.world h)

  -- what is kept as the groups of a processor's task use a millisecond: it goes on, or leaves
  pub record IsKeptByUse (m : ℕ) (w : WorldState) (c t : ℕ) : Type 0 where
    pub goes_on : is_throttled (used_ms w t) t ≡ false → I m None w.cpus (used_ms w t)
    pub leaves : is_throttled (used_ms w t) t ≡ true → I m (Some t) (set w.cpus c None) (after_stop (used_ms w t) c t)

  -- and as it has run for one: the policy hears of the tick in between
  pub record IsKeptByTick (m : ℕ) (w : WorldState) (c t : ℕ) : Type 0 where
    pub ran : I m None w.cpus (after_tick w t)
    pub uses : (v : WorldState) → v.cpus ≡ w.cpus → v.tree ≡ w.tree → I m None w.cpus v → IsKeptByUse m v c t

  keeps_use_up : (m : ℕ) (s : State) (c t : ℕ) → t < n → c < length s.world.cpus → get_or s.world.cpus c None ≡ Some t → IsKeptByUse m s.world c t → I (m + 1) None (use_up s c t).state.world.cpus (use_up s c t).state.world
  unfolding use_up
  keeps_use_up m s c t within l at h = go (is_throttled v.world t) refl
    where
      v : State
      v = with_world s (used_ms s.world t)

      same : v.world.cpus ≡ s.world.cpus
      same = cpus_used s.world t

      l' : c < length v.world.cpus
      l' = subst (λ (xs : List (Option ℕ)). c < length xs) (sym same) l

      at' : get_or v.world.cpus c None ≡ Some t
      at' = ap (λ (xs : List (Option ℕ)). get_or xs c None) same ∙ at

      go : (b : Bool) → is_throttled v.world t ≡ b → I (m + 1) None (if b then throttle v c t else expire v c t).state.world.cpus (if b then throttle v c t else expire v c t).state.world
      go true e = keeps_throttle m v c t within l' (tree_used_up v.world t e) (subst (λ xs. I m (Some t) (set xs c None) (after_stop v.world c t)) (sym same) (h.leaves e))
      go false e = keeps_expire m v c t l' at' (subst (λ xs. I m None xs v.world) (sym same) (h.goes_on e))

  -- the policy hears of a tick
  pub keeps_heard : (m : ℕ) (on : List (Option ℕ)) (s : State) (c t : ℕ) → c < length on → I m None on s.world → I m None on (tick_heard s c t).state.world
  keeps_heard m on s c t l h = walk_heard (Stays (I m None on)) c (keeps_calls n I k.steps m None on c l) s t h

  pub keeps_count_down : (m : ℕ) (s : State) (c t : ℕ) → t < n → c < length s.world.cpus → get_or s.world.cpus c None ≡ Some t → IsKeptByTick m s.world c t → I (m + 1) None (count_down s c t).state.world.cpus (count_down s c t).state.world
  unfolding count_down
  keeps_count_down m s c t within l at h =
      keeps_use_up m r c t within (subst (λ (xs : List (Option ℕ)). c < length xs) (sym same) l) (ap (λ (xs : List (Option ℕ)). get_or xs c None) same ∙ at) (h.uses r.world same (honest_heard v c t).tree x)
    where
      v : State
      v = with_world s (after_tick s.world t)

      r : State
      r = (tick_heard v c t).state

      x : I m None s.world.cpus r.world
      x = keeps_heard m s.world.cpus v c t l h.ran

      same : r.world.cpus ≡ s.world.cpus
      same = (k.sound m None s.world.cpus r.world x).cpus

  -- a processor that ran no task
  pub keeps_tick_idle : (m : ℕ) (s : State) (c : ℕ) → c < length s.world.cpus → get_or s.world.cpus c None ≡ None → I m None s.world.cpus s.world → I (m + 1) None (tick_idle s c).state.world.cpus (tick_idle s c).state.world
  unfolding tick_idle
  keeps_tick_idle m s c l at h =
      keeps_if (λ (r : Stepped). I (m + 1) None r.state.world.cpus r.state.world) (is_by_linux s) (stays s) (cycle s c None false) (k.steps.more m None s.world.cpus s.world h) (keeps_cycle_now m s c None false l at h)

  -- a processor that ran, where that a task has run is kept
  pub keeps_tick : (m : ℕ) (s : State) (c : ℕ) → c < length s.world.cpus → I m None s.world.cpus s.world → ((t : ℕ) → get_or s.world.cpus c None ≡ Some t → IsKeptByTick m s.world c t) → I (m + 1) None (tick s c).state.world.cpus (tick s c).state.world
  unfolding tick
  keeps_tick m s c l h ran = go (running s.world c) refl
    where
      go : (o : Option ℕ) → running s.world c ≡ o → I (m + 1) None (tick_of o s c).state.world.cpus (tick_of o s c).state.world
      go None at = keeps_tick_idle m s c l at h
      go (Some t) at = keeps_count_down m s c t (running_is_there n s.world c t l at (k.sound m None s.world.cpus s.world h)) l at (ran t at)

  -- ---- the clock

  -- a timer that runs
  keeps_fires : (m : ℕ) (on : List (Option ℕ)) (s : State) (j : ℕ) (a : Alarm) → a.cpu < length on → I m None on s.world → I m None on (fires (Some a) s j).state.world
  keeps_fires m on s j a there h =
      walk_fires (Stays (I m None on)) s j a (keeps_calls n I k.steps m None on a.cpu there) (λ x. keeps_timer n I k.steps m None on (with_timer s.world j None) (Some j) (k.steps.cancelled m None on s.world j x)) (λ r x. keeps_timer n I k.steps m None on r.world None x) h

  -- all timers that are due
  pub keeps_fire_all : (m : ℕ) (on : List (Option ℕ)) (s : State) → I m None on s.world → I m None on (fire_all s).state.world
  keeps_fire_all m on s h = walk_fire_all (Stays (I m None on)) (stays_walked (I m None on)) (λ v j a linux e x. keeps_fires m on v j a ((k.sound m None on v.world x).here.timed j a (due_started v.world j a e)) x) s h

  -- where that the clock goes on and periods begin is kept
  pub keeps_clock : (m : ℕ) (s : State) → I m None s.world.cpus (begun_periods (later s.world)) → I m None (clock s).state.world.cpus (clock s).state.world
  unfolding clock timers_and_watchdog watch
  keeps_clock m s h = go (overdue v)
    where
      u : State
      u = (let_all_go (with_world s (begun_periods (later s.world)))).state

      v : State
      v = (fire_all u).state

      gone-on : I m None s.world.cpus v.world
      gone-on = keeps_fire_all m s.world.cpus u (keeps_let_all_go n I (inside_of n I k) k.let_go m s.world.cpus (with_world s (begun_periods (later s.world))) h)

      go : (o : Option ℕ) → I m None (eject_if_stalled o v).state.world.cpus (eject_if_stalled o v).state.world
      go None = keeps_now m v.world (s.world.cpus, gone-on)
      go (Some t) = keeps_now m _ (s.world.cpus, keeps_eject n I k.steps m None s.world.cpus v _ gone-on)

  -- ---- a task's own weight

  module _ (m : ℕ) (hand : Option ℕ) (on : List (Option ℕ)) (s : State) (t c x : ℕ) (l : c < length on) where
    weighed : (v : State) → Stays (I m hand on) v (stays (with_world v (after_own_weight v.world t x)))
    weighed v h = k.weighed m hand on v.world t x h

    keeps_takes_weight : I m hand on s.world → I m hand on (takes_weight s t c x).state.world
    keeps_takes_weight h = walk_takes_weight (Stays (I m hand on)) (Stays (I m hand on)) (owns_all (Stays (I m hand on)) (stays_walked (I m hand on))) t x weighed c (keeps_calls n I k.steps m hand on c l) s h

    keeps_changes_weight : I m hand on s.world → I m hand on (changes_weight s t c x).state.world
    keeps_changes_weight h = walk_changes_weight (Stays (I m hand on)) (Stays (I m hand on)) (owns_all (Stays (I m hand on)) (stays_walked (I m hand on))) t x weighed c (keeps_calls n I k.steps m hand on c l) s h

    keeps_reweigh_running : I m hand on s.world → I m hand on (reweigh_running s t c x).state.world
    keeps_reweigh_running h = walk_reweigh_running (Stays (I m hand on)) (Stays (I m hand on)) (owns_all (Stays (I m hand on)) (stays_walked (I m hand on))) t x weighed c (keeps_calls n I k.steps m hand on c l) s h

  -- it changes neither rules nor masks
  ruled_changes : (s : State) (t c x : ℕ) → let w = (changes_weight s t c x).state.world in (w.rules ≡ s.world.rules) × (w.tree.masks ≡ s.world.tree.masks)
  ruled_changes s t c x =
      walk_changes_weight (Stays P) (Stays P) (owns_all (Stays P) (stays_walked P)) t x (λ v h. keeps_if P (is_none (own_weight_fault v.world.tree t x)) (with_tree v.world (with_own_weight v.world.tree t x)) v.world h h) c
      (record { steps = stays_walked P; called = λ v b a u told h. let y = honest_call_back v b a u c (λ e. absurd (told_no_choice b told e)) in (y.rules ∙ h.0, ap (λ z. z.masks) y.tree ∙ h.1) }) s (refl, refl)
    where
      P : WorldState → Type 0
      P w = (w.rules ≡ s.world.rules) × (w.tree.masks ≡ s.world.tree.masks)

  keeps_reweigh_waiting : (m : ℕ) (on : List (Option ℕ)) (s : State) (t c x : ℕ) → may_run s.world t c ≡ true → t < n → c < length on → waits s.world t ≡ true → I m None on s.world → I m None on (reweigh_waiting s t c x).state.world
  unfolding reweigh_waiting
  keeps_reweigh_waiting m on s t c x may within l here h =
      let a = (leaves_queue s t c change_flags).state in
      let b = (changes_weight a t c x).state in
      let left = honest_leaves_queue s t c change_flags in
      keeps_put_at n I (inside_of n I k) m on b t c 0 within l (may_as a.world b.world (ruled_changes a t c x).0 (ruled_changes a t c x).1 t c (may_as s.world a.world left.rules (ap (λ y. y.masks) left.tree) t c may)) (keeps_changes_weight m (Some t) on a t c x l (keeps_leaves_queue m on s t c change_flags within l here h))

  keeps_reweigh_off_cpu : (m : ℕ) (on : List (Option ℕ)) (s : State) (t c x : ℕ) → may_run s.world t c ≡ true → t < n → c < length on → I m None on s.world → I m None on (reweigh_off_cpu s t c x).state.world
  unfolding reweigh_off_cpu
  keeps_reweigh_off_cpu m on s t c x may within l h = go (waits s.world t) refl
    where
      go : (b : Bool) → waits s.world t ≡ b → I m None on (if b then reweigh_waiting s t c x else takes_weight s t c x).state.world
      go true here = keeps_reweigh_waiting m on s t c x may within l here h
      go false away = keeps_takes_weight m None on s t c x l h

  keeps_reweigh_at : (m : ℕ) (on : List (Option ℕ)) (o : Option ℕ) (s : State) (t x : ℕ) → ((c : ℕ) → o ≡ Some c → c < length on) → t < n → I m None on s.world → I m None on (reweigh_at o s t x).state.world
  keeps_reweigh_at m on None s t x there within h = keeps_reweigh_off_cpu m on s t (task_at s.world t).prev_cpu x ((k.allowed m None on s.world h).home t within) within ((k.sound m None on s.world h).homes t) h
  keeps_reweigh_at m on (Some c) s t x there within h = keeps_reweigh_running m None on s t c x (there c refl) h

  -- a task that has another weight
  pub keeps_reweigh : (m : ℕ) (s : State) (t x : ℕ) → t < n → I m None s.world.cpus s.world → I m None s.world.cpus (reweigh s t x).state.world
  unfolding reweigh reweigh_by_linux
  keeps_reweigh m s t x within h = keeps_if (λ (y : Stepped). I m None s.world.cpus y.state.world) (is_by_linux s) (record r { state = woken r.state }) (stays (with_world s (after_own_weight s.world t x))) (keeps_waker n I k.steps m None s.world.cpus r.state.world None (λ d e. absurd (cc)) done) (k.weighed m None s.world.cpus s.world t x h)
    where
      first : (c x many : ℕ) → Some 0 ≡ Some c → x < many → c < many
      first c x many e l = omega (arith, same e, l)
        where
          same : Some 0 ≡ Some c → 0 ≡ c
          same e = cc

      v : State
      v = with_world s (with_waker s.world (Some 0))

      r : Stepped
      r = reweigh_at (cpu_of s.world t) v t x

      done : I m None s.world.cpus r.state.world
      done = keeps_reweigh_at m s.world.cpus (cpu_of s.world t) v t x (λ c at. (position-Some (is_this t) s.world.cpus c None at).0) within (keeps_waker n I k.steps m None s.world.cpus s.world (Some 0) (λ c e. first c _ _ e ((k.sound m None s.world.cpus s.world h).homes t)) h)

-- ---- what an accepted event may be

pub data IsTaken (s : State) : Event → Type 0 where
  Wakes : (t : ℕ) → t < length s.world.tasks → is_runnable s.world t ≡ false → IsTaken s (Wake t)
  Sleeps : (t : ℕ) → t < length s.world.tasks → is_runnable s.world t ≡ true → IsTaken s (Sleep t)
  Ticks : (c : ℕ) → c < length s.world.cpus → IsTaken s (Tick c)
  Clocks : IsTaken s Clock
  Weighs : (g x : ℕ) → IsTaken s (SetWeight g x)
  WeighsTask : (t x : ℕ) → t < length s.world.tasks → IsTaken s (SetTaskWeight t x)

-- what an accepted event is about is there, and a task isn't already as it would make it
pub is_taken : (s : State) (v : Event) → refusal s v ≡ None → IsTaken s v
is_taken s (Wake t) ok = go (nat_lt t (length s.world.tasks)) (is_runnable s.world t) refl refl ok
  where
    go : (a b : Bool) → nat_lt t (length s.world.tasks) ≡ a → is_runnable s.world t ≡ b → (if a then (if b then Some AlreadyRunnable else None) else Some UnknownTask) ≡ None → IsTaken s (Wake t)
    go true true x y z = absurd (cc)
    go true false x y z = Wakes t (grind (arith, nat_tests, x)) y
    go false b x y z = absurd (cc)
is_taken s (Sleep t) ok = go (nat_lt t (length s.world.tasks)) (is_runnable s.world t) refl refl ok
  where
    go : (a b : Bool) → nat_lt t (length s.world.tasks) ≡ a → is_runnable s.world t ≡ b → (if a then (if b then None else Some NotRunnable) else Some UnknownTask) ≡ None → IsTaken s (Sleep t)
    go true true x y z = Sleeps t (grind (arith, nat_tests, x)) y
    go true false x y z = absurd (cc)
    go false b x y z = absurd (cc)
is_taken s (Tick c) ok = go (nat_lt c (length s.world.cpus)) refl ok
  where
    go : (a : Bool) → nat_lt c (length s.world.cpus) ≡ a → (if a then None else Some UnknownCpu) ≡ None → IsTaken s (Tick c)
    go true x z = Ticks c (grind (arith, nat_tests, x))
    go false x z = absurd (cc)
is_taken s Clock ok = Clocks
is_taken s (SetWeight g x) ok = Weighs g x
is_taken s (SetTaskWeight t x) ok = go (nat_lt t (length s.world.tasks)) refl (is_outside max_weight x) ok
  where
    go : (a : Bool) → nat_lt t (length s.world.tasks) ≡ a → (b : Bool) → (if a then (if b then Some BadWeight else None) else Some UnknownTask) ≡ None → IsTaken s (SetTaskWeight t x)
    go true y b z = WeighsTask t x (grind (arith, nat_tests, y))
    go false y b z = absurd (cc)

-- ---- each task in its place, and numbers that grow no faster than they may

-- with nobody at hand
abbrev pub IsFineNow : ℕ → ℕ → ℕ → WorldState → Type 0
IsFineNow n e m w = IsFine n e m None w.cpus w

fine_anew : (n e m k : ℕ) (on : List (Option ℕ)) (w : WorldState) → w.ejected ≡ None → IsFine n e m None on w → IsFine n e k None on w
fine_anew n e m k on w force h =
    let r = range_of n e m None on w h in
    let fresh = h.not_yet force in
    fine_of n e k None on w h.sound h.allowed (r.0, r.1, (λ t. omega (arith, fresh.1 t)), omega (arith, fresh.0), r.4, r.5, r.6)

-- a task's own weight lets no number grow
range_own_weight : (e m : ℕ) (on : List (Option ℕ)) (w : WorldState) (t x : ℕ) → IsRange e m on w → IsRange e m on (after_own_weight w t x)
range_own_weight e m on w t x r = keeps_if (IsRange e m on) (is_none (own_weight_fault w.tree t x)) (with_tree w (with_own_weight w.tree t x)) w (r.0, r.1, r.2, r.3, r.4, r.5, within_own w.tree on t x r.6) r

-- events keep what is fine between them
pub fine_events : (n e : ℕ) → IsKeptByEvents n (IsFine n e)
fine_events n e = record {
  steps = fine_steps n e;
  sound = λ m hand on w h. h.sound;
  allowed = λ m hand on w h. h.allowed;
  woken = λ m on w t within resting h. fine_of n e m (Some t) on (after_wake w t) (sound_woken on n w t within resting h.sound) (allowed_woken on n w t h.allowed) (range_same e m on w t _ refl refl (range_of n e m None on w h));
  let_go = λ m on w t within there h. fine_of n e m (Some t) on (let_go w t) (sound_let_go on n w t within there h.sound) (allowed_let_go on n w t h.allowed) (range_same e m on w t _ refl refl (range_of n e m None on w h));
  left = λ m on w t within runnable off h. let r = range_of n e m None on w h in fine_of n e m None on _ (sound_left on n w t within runnable off h.sound) (allowed_asleep on n (after_leave w t) t (allowed_left on n w t h.allowed)) (keeps_if (IsRange e m on) (nat_lt t (length w.tasks)) _ (after_leave w t) (range_same e m on (after_leave w t) t _ refl refl r) r);
  removed = λ m on w t within here h. fine_of n e m (Some t) on (after_leave w t) (sound_removed on n w t here h.sound) (allowed_left on n w t h.allowed) (range_of n e m None on w h);
  weighed = λ m hand on w t x h. fine_of n e m hand on (after_own_weight w t x) (sound_own_weight hand on n w t x h.sound) (allowed_weighed on n w t x h.allowed) (range_own_weight e m on w t x (range_of n e m hand on w h));
  anew = λ m k on w force h. fine_anew n e m k on w force h;
}

-- what is fine is kept inside of an event
pub fine_inside : (n e : ℕ) → IsKeptInside n (IsFine n e)
fine_inside n e = inside_of n (IsFine n e) (fine_events n e)

-- one more event was accepted
pub one_more : (n e m : ℕ) (w : WorldState) → IsFineNow n e m w → IsFineNow n (e + 1) m w
one_more n e m w h = record { sound = h.sound; allowed = h.allowed; clock = omega (arith, h.clock); runs = λ t. omega (arith, h.runs t); times = h.times; builtin_clock = h.builtin_clock; used = λ g. omega (arith, h.used g); within = h.within; not_yet = h.not_yet }

-- a millisecond is counted of a task that there is
used_is : (w : WorldState) (t : ℕ) → t < length w.tasks → used_ms w t ≡ with_tree w (with_use w.tree t)
used_is w t l = ap (λ b. cond b (with_tree w (with_use w.tree t)) w) (lt-ltb t (length w.tasks) l)

-- the groups of a task that there is have used a millisecond
range_used : (e m : ℕ) (on on' : List (Option ℕ)) (w : WorldState) (t : ℕ) → t < length w.tasks → ((g : ℕ) → usage_of w.tree g ≤ e) → AreWithin (with_use w.tree t) on' → IsRange (e + 1) m on w → IsRange (e + 1) m on' (used_ms w t)
range_used e m on on' w t there used within x = subst (IsRange (e + 1) m on') (sym (used_is w t there)) (x.0, x.1, x.2, x.3, x.4, most_used w.tree t e used, within)

-- it goes on, or leaves
fine_used : (n e m : ℕ) (w : WorldState) (c t : ℕ) → c < length w.cpus → get_or w.cpus c None ≡ Some t → ((g : ℕ) → usage_of w.tree g ≤ e) → IsFineNow n (e + 1) m w → IsKeptByUse n (IsFine n (e + 1)) (fine_events n (e + 1)) m w c t
fine_used n e m w c t l at used h = record {
  goes_on = λ free. fine_of n (e + 1) m None w.cpus v sound (allowed_used w.cpus n w t h.allowed) (range_used e m w.cpus w.cpus w t there used (within_used w.tree w.cpus c t at (ap (λ x. limits.is_throttled x t) (sym counted) ∙ tree_free v t v-there free) h.within) (range_of n (e + 1) m None w.cpus w h));
  leaves = λ up.
      fine_of n (e + 1) m (Some t) (set w.cpus c None) (after_stop v c t) (sound_stopped w.cpus n v c t l (running_is_there n w c t l at h.sound) at sound) (allowed_stopped w.cpus n v c t (allowed_used w.cpus n w t h.allowed))
      (range_same (e + 1) m (set w.cpus c None) v t _ refl refl (range_used e m w.cpus (set w.cpus c None) w t there used (within_used_up w.tree w.cpus c t at (ap (λ x. limits.is_throttled x t) (sym counted) ∙ tree_used_up v t up) h.within) (range_of n (e + 1) m None w.cpus w h)));
}
  where
    v : WorldState
    v = used_ms w t

    there : t < length w.tasks
    there = omega (arith, running_is_there n w c t l at h.sound, h.sound.tasks)

    counted : v.tree ≡ with_use w.tree t
    counted = ap (λ (x : WorldState). x.tree) (used_is w t there)

    v-there : t < length v.tasks
    v-there = subst (λ (x : WorldState). t < length x.tasks) (sym (used_is w t there)) there

    sound : IsSound None w.cpus n v
    sound = sound_used_ms None w.cpus n w t h.sound

-- a task has run for a millisecond, and then its groups have used it
pub fine_ticked : (n e m : ℕ) (w : WorldState) (c t : ℕ) → c < length w.cpus → get_or w.cpus c None ≡ Some t → IsFineNow n e m w → IsKeptByTick n (IsFine n (e + 1)) (fine_events n (e + 1)) m w c t
fine_ticked n e m w c t l at h = record {
  ran = fine_of n (e + 1) m None w.cpus (after_tick w t) (sound_ticked w.cpus n w t h.sound) (allowed_same w.cpus n w t (ran_a_tick (task_at w t)) refl h.allowed) (range_task (e + 1) m w.cpus w t (ran_a_tick (task_at w t)) (omega (arith, r.1 t)) refl (omega (arith, r.0), (λ u. omega (arith, r.1 u)), r.2, r.3, r.4, (λ g. omega (arith, r.5 g)), r.6));
  uses = λ v same tree x.
      fine_used n e m v c t (subst (λ (xs : List (Option ℕ)). c < length xs) (sym same) l) (ap (λ (xs : List (Option ℕ)). get_or xs c None) same ∙ at) (λ g. omega (arith, r.5 g, ap (λ y. usage_of y g) tree))
      (subst (λ xs. IsFine n (e + 1) m None xs v) (sym same) x);
}
  where
    r : IsRange e m w.cpus w
    r = range_of n e m None w.cpus w h

-- it stays fine as the clock grows and periods begin, with one event more
pub fine_later : (n e m : ℕ) (w : WorldState) → IsFineNow n e m w → IsFineNow n (e + 1) m (begun_periods (later w))
fine_later n e m w h = record { sound = sound_begun_periods None w.cpus n (later w) (sound_later w.cpus n w h.sound); allowed = allowed_later w.cpus n w h.allowed; clock = omega (arith, h.clock); runs = λ t. omega (arith, h.runs t); times = h.times; builtin_clock = h.builtin_clock; used = most_turned w.tree (w.clock + 1) (e + 1) (λ g. omega (arith, h.used g)); within = within_turned w.tree w.cpus (w.clock + 1) h.within; not_yet = h.not_yet }

pub fine_reweighed : (n e m : ℕ) (w : WorldState) (g x : ℕ) → IsFineNow n e m w → IsFineNow n e m (after_reweigh w g x)
fine_reweighed n e m w g x h = go (is_none (weight_fault w.tree g x))
  where
    go : (b : Bool) → IsFineNow n e m (if b then with_tree w (with_weight w.tree g x) else w)
    go true = record { sound = sound_with_weight w.cpus n w g x h.sound; allowed = record { runs = h.allowed.runs; local = h.allowed.local; home = h.allowed.home; asks = h.allowed.asks }; clock = h.clock; runs = h.runs; times = h.times; builtin_clock = h.builtin_clock; used = h.used; within = within_reweighed w.tree w.cpus g x h.within; not_yet = h.not_yet }
    go false = h

-- who runs is a task that there is
pub known_running : (n e m : ℕ) (w : WorldState) (c t : ℕ) → c < length w.cpus → get_or w.cpus c None ≡ Some t → IsFineNow n e m w → t < n
known_running n e m w c t l at h = running_is_there n w c t l at h.sound

-- the clock
pub fine_clock : (n e : ℕ) (s : State) → IsFineNow n e e s.world → IsFineNow n (e + 1) e (clock s).state.world
fine_clock n e s h = keeps_clock n (IsFine n (e + 1)) (fine_events n (e + 1)) e s (fine_later n e e s.world h)

-- all events, by themselves
pub fine_own : (n e : ℕ) (s : State) (v : Event) → length s.world.tasks ≡ n → refusal s v ≡ None → IsFineNow n e e s.world → IsFineNow n (e + 1) (e + 1) (own_step s v).state.world
fine_own n e s v tasks ok h = go v (is_taken s v ok)
  where
    I : ℕ → Option ℕ → List (Option ℕ) → WorldState → Type 0
    I = IsFine n (e + 1)

    k : IsKeptByEvents n I
    k = fine_events n (e + 1)

    h' : IsFineNow n (e + 1) e s.world
    h' = one_more n e e s.world h

    go : (v : Event) → IsTaken s v → IsFineNow n (e + 1) (e + 1) (own_step s v).state.world
    go _ (Wakes t within resting) = k.steps.more e None _ _ (keeps_wake n I k e s t (omega (arith, within, tasks)) resting h')
    go _ (Sleeps t within runnable) = keeps_sleep n I k e s t (omega (arith, within, tasks)) runnable h'
    go _ (Ticks c l) = keeps_tick n I k e s c l h' (λ t at. fine_ticked n e e s.world c t l at h)
    go _ Clocks = k.steps.more e None _ _ (keeps_clock n I k e s (fine_later n e e s.world h))
    go _ (Weighs g x) = k.steps.more e None _ _ (fine_reweighed n (e + 1) e s.world g x h')
    go _ (WeighsTask t x within) = k.steps.more e None _ _ (keeps_now n I k e _ (s.world.cpus, keeps_reweigh n I k e s t x (omega (arith, within, tasks)) h'))

-- and with their rounds
pub fine_step : (n e : ℕ) (s : State) (v : Event) → length s.world.tasks ≡ n → refusal s v ≡ None → IsFineNow n e e s.world → IsFineNow n (e + 1) (e + 1) (event_step s v).state.world
fine_step n e s v tasks ok h = keeps_with_rounds n (IsFine n (e + 1)) (fine_events n (e + 1)) e (own_step s v) (fine_own n e s v tasks ok h)
