-- The clock grows, a task's weight changes, an event is over: the notes tell what is so of each task
-- afterwards.
use Rattle.std.proofs.Common.{◌≡◌, ℕ, zero, suc, ◌<◌, Bool, true, false, ◌&&◌, ◌||◌, if◌then◌else◌, unwrap_or, List, [], ◌∷◌, ◌++◌, length, Option, Some, None, is_some, is_none, option_map, refl, sym, ap, ◌∙◌, subst, arith}
use Rattle.std.proofs.lemmas.List.{get_or-set_same, get_or-set_other}
use Rattle.std.proofs.lemmas.List.Quantifiers.{position-Some}
use Rattle.scx_dsq.specs.declared.entries.Entry.{Entry}
use Rattle.scx_dsq.specs.Queues.{queue_of, front_of, behind_of}
use Rattle.scx_isa_semantics.specs.declared.callbacks.Callback.{Callback}
use Rattle.scx_isa_semantics.specs.declared.callbacks.Callback.TheVariants as callback
use Rattle.scx_vm.specs.declared.arguments.Args.{Args}
use Rattle.scx_weights.specs.Hierarchy.{with_weight, with_own_weight}
use Rattle.scx_weights.specs.Refusals.{weight_fault, own_weight_fault}
use Rattle.scx_sched_tasks.specs.declared.task.Task.{Task}
use Rattle.scx_sched_tasks.specs.Tasks.{no_task}
use Rattle.scx_sched_world.specs.declared.notes.What.TheVariants as note
use Rattle.scx_sched_world.specs.declared.timers.Alarm.{Alarm}
use Rattle.scx_sched_world.specs.Ids.{parked_queue}
use Rattle.scx_sched_world.specs.World.{WorldState, with_tree, with_waker, task_at, is_this, or_this, is_idle, waits_in, waits, cpu_of, note_now}
use Rattle.scx_sched_world.specs.Helpers.{alarm_at, due_now, with_timer, after_fire}
use Rattle.scx_sched_world.specs.Tasks.{with_since, after_leave, let_go, later, begun_periods, after_reweigh, after_own_weight}
use Rattle.scx_sched_world.proofs.Fronts.{behind_in, AtParked, at_front, at_behind}
use Rattle.scx_sched_machine.specs.declared.events.Event.{Event}
use Rattle.scx_sched_machine.specs.declared.events.Event.TheVariants.{SetWeight}
use Rattle.scx_sched_machine.specs.Steps.{State, Stepped, stays, with_world, one_after_other, is_by_linux, kicked, kicked_if_idle}
use Rattle.scx_sched_machine.specs.Callbacks.{call_by_linux, task_and_number, one_number}
use Rattle.scx_sched_machine.specs.Custody.{is_in_custody, tells_dequeued, tells_dequeued_if}
use Rattle.scx_sched_machine.specs.Put.{put}
use Rattle.scx_sched_machine.specs.Parking.{let_go_one, let_all_go}
use Rattle.scx_sched_machine.specs.Firing.{due, fired, fires, fire, fire_below, fire_all}
use Rattle.scx_sched_machine.specs.Events.{refusal, woken, leaves_queue, overdue, eject_if_stalled, watch, timers_and_watchdog, clock, restore_flag, change_flags, takes_weight, changes_weight, reweigh_running, reweigh_waiting, reweigh_off_cpu, reweigh_at, reweigh_by_linux, reweigh, own_step, event_step}
use Rattle.scx_sched_machine.proofs.Choices.{keeps_if}
use Rattle.scx_sched.specs.Once.{IsSound}
use Rattle.scx_sched.proofs.Blaming.{honest_call_by_linux}
use Rattle.scx_sched.proofs.Events.{IsTaken, Wakes, Sleeps, Ticks, Clocks, Weighs, WeighsTask, is_taken}
use Rattle.scx_sched.proofs.Parking.{sound_let_go, sound_begun_periods}
use Rattle.scx_sched.proofs.Skeleton.{due_started, keeps_eject, keeps_kicked_if_idle, keeps_timer}
use Rattle.scx_sched.proofs.Sound.{place_known, sound_later, sound_timed, sound_waker, sound_with_weight, sound_removed, sound_own_weight}
use Rattle.scx_sched.proofs.Staying.{stay_put}
use Rattle.scx_sched.proofs.Waiting.{removed_other}
use Rattle.scx_laws.specs.Telling.{tell, told}
use Rattle.scx_sched.proofs.Stepwise.{IsOneLetGo, parked_let_go}
use Rattle.scx_laws.proofs.Noted.{told_append, IsReady, ready_left}
use Rattle.scx_laws.proofs.NotedCalls.{told_nothing, told_eject}
use Rattle.scx_laws.proofs.NotedPuts.{sound_steps, Goes, Puts, told_plainly, goes_stays, goes_joined, goes_call_by_linux, goes_tells_dequeued, ready_on, puts_put}
use Rattle.scx_laws.proofs.NotedCycles.{Goes-to, goes_from}
use Rattle.scx_laws.proofs.NotedWakes.{Leads, goes_wake}
use Rattle.scx_laws.proofs.NotedSleeps.{goes_sleep}
use Rattle.scx_laws.proofs.NotedTicks.{goes_tick, goes_with_rounds}

no_wait : (o : Option ℕ) → is_some o ≡ false → o ≡ None
no_wait None e = refl
no_wait (Some k) e = absurd (cc)

module _ (u n : ℕ) where
  -- ---- tasks are let go

  module _ (on : List (Option ℕ)) where
    known : (w : WorldState) (t : ℕ) → queue_of w.queues t ≡ Some parked_queue → IsSound None on n w → t < n
    known w t here h = subst (λ k. t < k) h.even (place_known w.queues parked_queue t here).0

    -- one that was parked begins to wait as it is let go
    ready_let_go : (w : WorldState) (t : ℕ) → queue_of w.queues t ≡ Some parked_queue → IsSound None on n w → IsReady u t (let_go w t) (tell w u)
    ready_let_go w t here h = record {
      runnable = refl;
      cpu = refl;
      queue = λ d. ap (λ (o : Option Entry). option_map (λ p. p.queue) o) (sym (removed_other w.queues t u d));
      since = λ d. sym (ap (λ (x : Task). x.since) (get_or-set_other w.tasks t u new no_task d));
      waits = λ e. subst (λ k. or_this (task_at w k).since (Some w.clock) ≡ (task_at (let_go w t) k).since) (sym e) at;
    }
      where
        new : Task
        new = with_since (task_at w t) (Some w.clock)

        none : (task_at w t).since ≡ None
        none = no_wait (task_at w t).since (h.waiting t ∙ ap (λ o. waits_in o || false) here)

        at : or_this (task_at w t).since (Some w.clock) ≡ (task_at (let_go w t) t).since
        at = ap (λ o. or_this o (Some w.clock)) none ∙ sym (ap (λ (x : Task). x.since) (get_or-set_same w.tasks t new no_task (subst (λ k. t < k) (sym h.tasks) (known w t here h))))

    goes_let_go_one : (s : State) (t : ℕ) → queue_of s.world.queues t ≡ Some parked_queue → IsSound None on n s.world → Goes-to u n s (let_go_one s t) on
    unfolding let_go_one
    goes_let_go_one s t here h =
        let c = (task_at s.world t).prev_cpu in
        let v = with_world s (let_go s.world t) in
        let r = put v t c 0 in
        let p = puts_put u n on t v c 0 (known s.world t here h) (h.homes t) (sound_let_go on n s.world t (known s.world t here h) here h) in
        let z = kicked_if_idle r.state c in
        (keeps_kicked_if_idle n (λ m hand on w. IsSound hand on n w) (sound_steps n) 0 None on r.state c p.0, told_plainly u n s.world z.world r.notes (p.1 (tell s.world u) (ready_let_go s.world t here h) ∙ sym (keeps_if (λ (x : State). tell x.world u ≡ tell r.state.world u) (is_by_linux r.state && is_idle r.state.world c) (kicked r.state c) r.state refl refl)))

    -- the others stay parked
    one_leaves : (s : State) (t k : ℕ) → queue_of s.world.queues t ≡ Some parked_queue → queue_of s.world.queues k ≡ Some parked_queue → (k ≡ t → ⊥) → IsSound None on n s.world → queue_of (let_go_one s t).state.world.queues k ≡ Some parked_queue
    unfolding let_go_one
    one_leaves s t k here there other h =
        let c = (task_at s.world t).prev_cpu in
        let v = with_world s (let_go s.world t) in
        let r = (put v t c 0).state in
        let off : queue_of v.world.queues k ≡ Some parked_queue = ap (λ (o : Option Entry). option_map (λ p. p.queue) o) (removed_other s.world.queues t k other) ∙ there in
        let same = (stay_put n (λ m hand on w. IsSound hand on n w) (sound_steps n) (λ m hand on w x. x) 0 on v t c 0 (h.homes t) (sound_let_go on n s.world t (known s.world t here h) here h)).stay k off in
        keeps_if (λ (x : State). queue_of x.world.queues k ≡ Some parked_queue) (is_by_linux r && is_idle r.world c) (kicked r c) r (ap (λ (o : Option Entry). option_map (λ p. p.queue) o) same ∙ off) (ap (λ (o : Option Entry). option_map (λ p. p.queue) o) same ∙ off)

    at_next : (s : State) (t : ℕ) → queue_of s.world.queues t ≡ Some parked_queue → IsSound None on n s.world → (o : Option ℕ) → behind_of s.world.queues t ≡ o → AtParked (let_go_one s t).state.world.queues o
    at_next s t here h None e = tt
    at_next s t here h (Some k) e = let b = behind_in s.world.queues parked_queue t k here e in one_leaves s t k here b.there b.other h

    one_let_go : IsOneLetGo (λ s. IsSound None on n s.world) (λ s o. AtParked s.world.queues o) (λ s r. Goes-to u n s r on)
    one_let_go = record {
      none = λ s h. goes_stays u n None on s h;
      joined = λ s a r x y. goes_joined u n None on s a r x y;
      passed = λ s t here. at_behind s.world.queues t (behind_of s.world.queues t) here refl;
      one = λ s t here h. let x = goes_let_go_one s t here h in (x, x.0, at_next s t here h (behind_of s.world.queues t) refl);
    }

    -- ---- timers, and the watchdog

    goes_fires : (o : Option Alarm) (s : State) (j : ℕ) → ((a : Alarm) → o ≡ Some a → a.cpu < length on) → IsSound None on n s.world → Goes-to u n s (fires o s j) on
    goes_fires None s j there h = goes_stays u n None on s h
    goes_fires (Some a) s j there h =
        let I = λ (m : ℕ) (hand : Option ℕ) (on : List (Option ℕ)) (w : WorldState). IsSound hand on n w in
        let v = with_world s (after_fire s.world j) in
        let z = keeps_timer n I (sound_steps n) 0 None on (with_timer s.world j None) (Some j) (sound_timed None on n s.world j None (λ b e. absurd (cc)) h) in
        let r = call_by_linux v callback.Timer (one_number j) 0 a.cpu in
        let x = goes_call_by_linux u n None on v callback.Timer (one_number j) 0 a.cpu (there a refl) z in
        (keeps_timer n I (sound_steps n) 0 None on r.state.world None x.0, told_plainly u n s.world (fired r.state).world r.notes x.1.tells)

    goes_fire : (s : State) (j : ℕ) → IsSound None on n s.world → Goes-to u n s (fire s j) on
    unfolding fire due
    goes_fire s j h = goes_fires (due s j) s j (λ a e. h.here.timed j a (started a (is_by_linux s) e)) h
      where
        started : (a : Alarm) (b : Bool) → (if b then due_now s.world (alarm_at s.world j) else None) ≡ Some a → alarm_at s.world j ≡ Some a
        started a true e = due_started s.world j a e
        started a false e = absurd (cc)

    goes_fire_below : (j : ℕ) (s : State) → IsSound None on n s.world → Goes-to u n s (fire_below j s) on
    goes_fire_below zero s h = goes_stays u n None on s h
    goes_fire_below (suc j) s h =
        let r = fire_below j s in
        let x = goes_fire_below j s h in
        goes_joined u n None on s r (fire r.state j) x (goes_fire r.state j x.0)

    goes_stalled : (o : Option ℕ) (s : State) → IsSound None on n s.world → Goes-to u n s (eject_if_stalled o s) on
    goes_stalled None s h = goes_stays u n None on s h
    goes_stalled (Some t) s h = (keeps_eject n (λ m hand on w. IsSound hand on n w) (sound_steps n) 0 None on s _ h, told_eject u None on n s _ h)

    goes_clock : (s : State) → IsSound None on n s.world → Goes-to u n s (clock s) on
    unfolding clock timers_and_watchdog watch fire_all
    goes_clock s h =
        let v = with_world s (begun_periods (later s.world)) in
        let a = let_all_go v in
        let x = parked_let_go (λ s. IsSound None on n s.world) (λ s o. AtParked s.world.queues o) (λ s r. Goes-to u n s r on) one_let_go v (at_front v.world.queues (front_of v.world.queues parked_queue) refl) (sound_begun_periods None on n (later s.world) (sound_later on n s.world h)) in
        let b = fire_all a.state in
        let y = goes_fire_below (length a.state.world.timers) a.state x.0 in
        let z = goes_stalled (overdue b.state) b.state y.0 in
        goes_from u n on s v (clock s) refl (goes_joined u n None on v a (timers_and_watchdog a.state) x (goes_joined u n None on a.state b (watch b.state) y z))

    -- ---- a task's own weight

    same_weight : (w : WorldState) (t x : ℕ) → tell (after_own_weight w t x) u ≡ tell w u
    same_weight w t x = keeps_if (λ (v : WorldState). tell v u ≡ tell w u) (is_none (own_weight_fault w.tree t x)) (with_tree w (with_own_weight w.tree t x)) w refl refl

    module _ (hand : Option ℕ) where
      goes_takes_weight : (s : State) (t c x : ℕ) → c < length on → IsSound hand on n s.world → Goes u n hand on s (takes_weight s t c x)
      unfolding takes_weight
      goes_takes_weight s t c x l h =
          let v = with_world s (after_own_weight s.world t x) in
          let r = call_by_linux v callback.SetWeight (task_and_number t x) t c in
          let y = goes_call_by_linux u n hand on v callback.SetWeight (task_and_number t x) t c l (sound_own_weight hand on n s.world t x h) in
          (y.0, record { tells = ap (λ z. told r.notes u z) (sym (same_weight s.world t x)) ∙ y.1.tells; silent = y.1.silent })

      goes_changes_weight : (s : State) (t c x : ℕ) → c < length on → IsSound hand on n s.world → Goes u n hand on s (changes_weight s t c x)
      unfolding changes_weight
      goes_changes_weight s t c x l h =
          let q = call_by_linux s callback.Quiescent (task_and_number t change_flags) t c in
          let y = goes_call_by_linux u n hand on s callback.Quiescent (task_and_number t change_flags) t c l h in
          let w = takes_weight q.state t c x in
          let z = goes_takes_weight q.state t c x l y.0 in
          let r = call_by_linux w.state callback.Runnable (task_and_number t restore_flag) t c in
          goes_joined u n hand on s q (one_after_other w r) y (goes_joined u n hand on q.state w r z (goes_call_by_linux u n hand on w.state callback.Runnable (task_and_number t restore_flag) t c l z.0))

    -- a callback, what a weight needs, and another callback
    goes_around : (p q : Callback) (d b : Args) (s : State) (t c x : ℕ) → c < length on → IsSound None on n s.world → let a = call_by_linux s p d t c in let w = changes_weight a.state t c x in Goes-to u n s (one_after_other a (one_after_other w (call_by_linux w.state q b t c))) on
    goes_around p q d b s t c x l h =
        let a = call_by_linux s p d t c in
        let y = goes_call_by_linux u n None on s p d t c l h in
        let w = changes_weight a.state t c x in
        let z = goes_changes_weight None a.state t c x l y.0 in
        let r = call_by_linux w.state q b t c in
        goes_joined u n None on s a (one_after_other w r) y (goes_joined u n None on a.state w r z (goes_call_by_linux u n None on w.state q b t c l z.0))

    goes_reweigh_running : (s : State) (t c x : ℕ) → c < length on → IsSound None on n s.world → Goes-to u n s (reweigh_running s t c x) on
    unfolding reweigh_running
    goes_reweigh_running s t c x l h = goes_around _ _ _ _ s t c x l h

    -- the clock stays
    clock_taken : (s : State) (t c x : ℕ) → (takes_weight s t c x).state.world.clock ≡ s.world.clock
    unfolding takes_weight
    clock_taken s t c x = (honest_call_by_linux (with_world s (after_own_weight s.world t x)) callback.SetWeight (task_and_number t x) t c (λ e. absurd (cc))).clock ∙ keeps_if (λ (v : WorldState). v.clock ≡ s.world.clock) (is_none (own_weight_fault s.world.tree t x)) _ s.world refl refl

    clock_changes : (s : State) (t c x : ℕ) → (changes_weight s t c x).state.world.clock ≡ s.world.clock
    unfolding changes_weight
    clock_changes s t c x =
        let q = (call_by_linux s callback.Quiescent (task_and_number t change_flags) t c).state in
        let w = (takes_weight q t c x).state in
        (honest_call_by_linux w callback.Runnable (task_and_number t restore_flag) t c (λ e. absurd (cc))).clock ∙ (clock_taken q t c x ∙ (honest_call_by_linux s callback.Quiescent (task_and_number t change_flags) t c (λ e. absurd (cc))).clock)

    clock_dequeued : (b : Bool) (s : State) (t c flags : ℕ) → (tells_dequeued_if b s t c flags).state.world.clock ≡ s.world.clock
    unfolding tells_dequeued
    clock_dequeued true s t c flags = (honest_call_by_linux s callback.Dequeue (task_and_number t flags) t c (λ e. absurd (cc))).clock
    clock_dequeued false s t c flags = refl

    -- a task that waits leaves its queue, of which nothing is noted until it is put again
    goes_reweigh_waiting : (s : State) (t c x : ℕ) → t < n → c < length on → waits s.world t ≡ true → IsSound None on n s.world → Goes-to u n s (reweigh_waiting s t c x) on
    unfolding reweigh_waiting leaves_queue
    goes_reweigh_waiting s t c x within l here h = (p.0, told_plainly u n w r.state.world (a.notes ++ (b.notes ++ r.notes)) (told_append a.notes (b.notes ++ r.notes) u (tell w u) ∙ (told_append b.notes r.notes u (told a.notes u (tell w u)) ∙ p.1 (told b.notes u (told a.notes u (tell w u))) ready)))
      where
        w : WorldState
        w = s.world

        v : State
        v = with_world s (after_leave w t)

        a : Stepped
        a = tells_dequeued_if (is_in_custody w t) v t c change_flags

        y : Goes u n (Some t) on v a
        y = goes_tells_dequeued u n (Some t) on (is_in_custody w t) v t c change_flags l (sound_removed on n w t here h)

        b : Stepped
        b = changes_weight a.state t c x

        z : Goes u n (Some t) on a.state b
        z = goes_changes_weight (Some t) a.state t c x l y.0

        r : Stepped
        r = put b.state t c 0

        p : Puts u n on t b.state r
        p = puts_put u n on t b.state c 0 within l z.0

        ready : IsReady u t b.state.world (told b.notes u (told a.notes u (tell w u)))
        ready = ready_on u n on t a.state b (told a.notes u (tell w u)) (clock_changes a.state t c x) z.1 (ready_on u n on t v a (tell w u) (clock_dequeued (is_in_custody w t) v t c change_flags) y.1 (ready_left on n w u t here h))

    goes_reweigh_off_cpu : (s : State) (t c x : ℕ) → t < n → c < length on → IsSound None on n s.world → Goes-to u n s (reweigh_off_cpu s t c x) on
    unfolding reweigh_off_cpu
    goes_reweigh_off_cpu s t c x within l h = go (waits s.world t) refl
      where
        go : (b : Bool) → waits s.world t ≡ b → Goes-to u n s (if b then reweigh_waiting s t c x else takes_weight s t c x) on
        go true here = goes_reweigh_waiting s t c x within l here h
        go false away = goes_takes_weight None s t c x l h

    goes_reweigh_at : (o : Option ℕ) (s : State) (t x : ℕ) → ((c : ℕ) → o ≡ Some c → c < length on) → t < n → IsSound None on n s.world → Goes-to u n s (reweigh_at o s t x) on
    goes_reweigh_at None s t x there within h = goes_reweigh_off_cpu s t (task_at s.world t).prev_cpu x within (h.homes t) h
    goes_reweigh_at (Some c) s t x there within h = goes_reweigh_running s t c x (there c refl) h

    goes_reweigh : (s : State) (t x : ℕ) → t < n → IsSound None on n s.world → Goes-to u n s (reweigh s t x) on
    unfolding reweigh reweigh_by_linux
    goes_reweigh s t x within h =
        keeps_if (λ (k : Stepped). Goes-to u n s k on) (is_by_linux s) (record r { state = woken r.state }) (stays (with_world s (after_own_weight s.world t x))) (sound_waker None on n r.state.world None (λ c e. absurd (cc)) y.0, told_plainly u n s.world (woken r.state).world r.notes y.1.tells)
        (sound_own_weight None on n s.world t x h, told_nothing u None s.world (after_own_weight s.world t x) (same_weight s.world t x))
      where
        v : State
        v = with_world s (with_waker s.world (Some 0))

        r : Stepped
        r = reweigh_at (cpu_of s.world t) v t x

        y : Goes-to u n v r on
        y = goes_reweigh_at (cpu_of s.world t) v t x (λ c at. subst (λ (xs : List (Option ℕ)). c < length xs) h.cpus (position-Some (is_this t) s.world.cpus c None at).0) within (sound_waker None on n s.world (Some 0) (λ c e. subst (λ k. k < length on) (ap (λ (o : Option ℕ). unwrap_or o 0) e) (omega (arith, h.homes t))) h)

  -- ---- each event

  goes_own : (s : State) (v : Event) → length s.world.tasks ≡ n → refusal s v ≡ None → IsSound None s.world.cpus n s.world → Leads u n s (own_step s v)
  goes_own s v tasks ok h = go v (is_taken s v ok)
    where
      on : List (Option ℕ)
      on = s.world.cpus

      go : (v : Event) → IsTaken s v → Leads u n s (own_step s v)
      go _ (Wakes t within resting) = goes_wake u n on s t (omega (arith, within, tasks)) resting h
      go _ (Sleeps t within runnable) = goes_sleep u n on s t (omega (arith, within, tasks)) runnable h
      go _ (Ticks c l) = goes_tick u n on s c l h
      go _ Clocks = (on, goes_clock on s h)
      go _ (Weighs g x) = (on, weighs)
        where
          same : tell (after_reweigh s.world g x) u ≡ tell s.world u
          same = keeps_if (λ (w : WorldState). tell w u ≡ tell s.world u) (is_none (weight_fault s.world.tree g x)) (with_tree s.world (with_weight s.world.tree g x)) s.world refl refl

          weighs : Goes-to u n s (own_step s (SetWeight g x)) on
          weighs = (keeps_if (IsSound None on n) (is_none (weight_fault s.world.tree g x)) (with_tree s.world (with_weight s.world.tree g x)) s.world (sound_with_weight on n s.world g x h) h, told_plainly u n s.world (after_reweigh s.world g x) (note_now s.world (note.Weight g x) ∷ []) (sym same))
      go _ (WeighsTask t x within) =
          let r = reweigh s t x in
          let y = goes_reweigh on s t x (omega (arith, within, tasks)) h in
          (on, (y.0, told_plainly u n s.world r.state.world (note_now s.world (note.TaskWeight t x) ∷ r.notes) y.1.tells))

-- the notes of an accepted event tell of each task what is so after it
pub event_tells : (u : ℕ) (s : State) (v : Event) → refusal s v ≡ None → IsSound None s.world.cpus (length s.world.tasks) s.world → told (event_step s v).notes u (tell s.world u) ≡ tell (event_step s v).state.world u
event_tells u s v ok h = let n = length s.world.tasks in let x = goes_with_rounds u n s (own_step s v) (goes_own u n s v refl ok h) in x.1.1.tells
