-- What events alone decide: the clock, who is runnable, the weights and what was used of quotas. No callback and no cycle
-- changes these.
use Rattle.std.proofs.Common.{◌≡◌, ℕ, ◌+◌, ◌<◌, Bool, true, false, ◌==◌, nat_lt, nat_le, if◌then◌else◌, List, [], length, set, get_or, Option, Some, None, refl, sym, ap, subst, ◌∙◌, arith, ◌∷◌}
use Rattle.std.proofs.lemmas.Bool.Decides.{nat_tests}
use Rattle.std.proofs.lemmas.List.{length-set}
use Rattle.std.proofs.lemmas.List.Quantifiers.{position-Some}
use Rattle.scx_weights.specs.Hierarchy.{Hierarchy}
use Rattle.scx_weights.specs.Refusals.{max_weight, is_outside, weight_fault, own_weight_fault}
use Rattle.scx_sched_world.specs.declared.eject.Eject.{Eject}
use Rattle.scx_sched_world.specs.declared.eject.Eject.TheVariants as cause
use Rattle.scx_sched_world.specs.declared.notes.What.TheVariants as note
use Rattle.scx_sched_world.specs.World.{is_this, cpu_of, task_at, note_now}
use Rattle.scx_sched_world.specs.Tasks.{after_stop, after_tick, after_leave}
use Rattle.scx_sched_machine.specs.declared.events.Event.{Event}
use Rattle.scx_sched_machine.specs.declared.events.Event.TheVariants.{Wake, Sleep, Tick, Clock, SetWeight, SetTaskWeight}
use Rattle.scx_sched_machine.specs.declared.events.Refused.TheVariants.{UnknownGroup, BadWeight, RunOver, UnknownTask}
use Rattle.scx_sched_machine.specs.Steps.{State, Stepped, with_world, one_after_other, is_by_linux}
use Rattle.scx_sched_machine.specs.Ejecting.{eject}
use Rattle.scx_sched_machine.specs.Custody.{is_in_custody, tells_dequeued_if}
use Rattle.scx_sched_machine.specs.Events.{wake, leaves_cpu, sleep, tick, overdue, eject_if_stalled, clock, own_step, event_step, leaves_queue}
use Rattle.scx_sched_machine.specs.Rounds.{with_rounds}
use Rattle.scx_sched_machine.specs.Events as machine
use Rattle.scx_sched.specs.Sim.{SimState, max_events, refusal, calls_if, IsValid}
use Rattle.scx_sched.specs.Ranges.{IsFine}
use Rattle.scx_sched.specs.Decided.{clock_after, tree_after, EventsDecide}
use Rattle.scx_sched.proofs.Unchanged.{eject_sets}
use Rattle.scx_sched.proofs.Fine.{fine_steps}
use Rattle.scx_sched.proofs.Events.{IsFineNow, IsTaken, Wakes, Sleeps, Ticks, Clocks, Weighs, is_task, is_taken, known_running, fine_events, fine_ticked, keeps_leaves_cpu, keeps_heard, WeighsTask, custody_waits, keeps_leaves_queue}
use Rattle.scx_sched.proofs.Tallies.{run_times}
use Rattle.scx_sched.proofs.Blaming.{IsHonest, state_with_tree, ticked, begun_ms, clocked, clock_watched, honest_clocked, honest_unwatched, none_of, eject_policy, eject_calls, honest_wake, honest_sleep, honest_tick, honest_weight, honest_with_rounds, no_rounds, plain_on, honest_reweigh}

pub record IsAccepted (s : SimState) (v : Event) : Type 0 where
  pub not_over : (s.events == max_events) ≡ false
  pub taken : machine.refusal s.state v ≡ None

-- the laws of an accepted event
pub accepted : (s : SimState) (v : Event) → refusal s v ≡ None → IsAccepted s v
accepted s v e = go (s.events == max_events) refl e
  where
    go : (b : Bool) → (s.events == max_events) ≡ b → (if b then Some RunOver else machine.refusal s.state v) ≡ None → IsAccepted s v
    go true x e = absurd (cc)
    go false x e = record { not_over = x; taken = e }

-- the weight of an accepted event can be set
can_set : (h : Hierarchy) (g x : ℕ) → (if nat_lt g (length h.groups) then (if is_outside max_weight x then Some BadWeight else None) else Some UnknownGroup) ≡ None → weight_fault h g x ≡ None
can_set h g x e = go (nat_lt g (length h.groups)) (is_outside max_weight x) refl refl e
  where
    go : (a b : Bool) → nat_lt g (length h.groups) ≡ a → is_outside max_weight x ≡ b → (if a then (if b then Some BadWeight else None) else Some UnknownGroup) ≡ None → weight_fault h g x ≡ None
    go true false y z f = let known : nat_le (length h.groups) g ≡ false = grind (arith, nat_tests, y) in rw (known, z) refl
    go true true y z f = absurd (cc)
    go false b y z f = absurd (cc)

-- nor one of a task, in a sound world
can_set_own : (h : Hierarchy) (m t x : ℕ) → length h.homes ≡ m → (if nat_lt t m then (if is_outside max_weight x then Some BadWeight else None) else Some UnknownTask) ≡ None → own_weight_fault h t x ≡ None
can_set_own h m t x many e = go (nat_lt t m) (is_outside max_weight x) refl refl e
  where
    go : (a b : Bool) → nat_lt t m ≡ a → is_outside max_weight x ≡ b → (if a then (if b then Some BadWeight else None) else Some UnknownTask) ≡ None → own_weight_fault h t x ≡ None
    go true false y z f = let known : nat_le (length h.homes) t ≡ false = grind (arith, nat_tests, y, many) in rw (known, z) refl
    go true true y z f = absurd (cc)
    go false b y z f = absurd (cc)

-- what happened is honest, but for the tree that the event makes
abbrev pub IsHonestEvent : State → Event → Type 0
IsHonestEvent s v = IsHonest (state_with_tree s (tree_after v s.world)) (event_step s v)

module _ (s : State) (n : ℕ) (fine : IsFineNow (length s.world.tasks) n n s.world) where
  abbrev many : ℕ
  many = length s.world.tasks

  -- who stops to sleep is still there
  still_known : (t c : ℕ) → t < many → cpu_of s.world t ≡ Some c → t < length (leaves_cpu s c t 0).state.world.tasks
  still_known t c within at =
      let x = position-Some (is_this t) s.world.cpus c None at in
      let on : List (Option ℕ) = set s.world.cpus c None in
      let gone : IsFine many n n (Some t) on (after_stop s.world c t) = (fine_steps many n).stopped n s.world.cpus s.world c t x.0 within (is_task t (get_or s.world.cpus c None) x.1) fine in
      let off : IsFine many n (n + 1) (Some t) on (leaves_cpu s c t 0).state.world = keeps_leaves_cpu many (IsFine many n) (fine_events many n) n on s c t 0 (rw (length-set s.world.cpus c None) x.0) gone in
      subst (λ k. t < k) (sym off.sound.tasks) within

  -- nor is one gone that ran, once the policy has heard of the tick
  ticked_known : (c t : ℕ) → c < length s.world.cpus → get_or s.world.cpus c None ≡ Some t → t < length (ticked s c t).state.world.tasks
  ticked_known c t l at =
      let x = fine_ticked many n n s.world c t l at fine in
      let off : IsFine many (n + 1) n None s.world.cpus (ticked s c t).state.world = keeps_heard many (IsFine many (n + 1)) (fine_events many (n + 1)) n s.world.cpus (with_world s (after_tick s.world t)) c t l x.ran in
      subst (λ k. t < k) (sym off.sound.tasks) (known_running many n n s.world c t l at fine)

  -- nor one that leaves its queue to sleep
  left_known : (t : ℕ) → t < many → t < length (leaves_queue s t (task_at s.world t).prev_cpu 1).state.world.tasks
  unfolding leaves_queue
  left_known t within = go (is_in_custody s.world t) refl
    where
      c : ℕ
      c = (task_at s.world t).prev_cpu

      v : State
      v = with_world s (after_leave s.world t)

      go : (b : Bool) → is_in_custody s.world t ≡ b → t < length (leaves_queue s t c 1).state.world.tasks
      go true e =
          let x : IsFine many n n (Some t) s.world.cpus (leaves_queue s t c 1).state.world = keeps_leaves_queue many (IsFine many n) (fine_events many n) n s.world.cpus s t c 1 within (fine.sound.homes t) (custody_waits s.world t e) fine in
          subst (λ k. t < k) (sym x.sound.tasks) within
      go false e = subst (λ b. t < length (tells_dequeued_if b v t c 1).state.world.tasks) (sym e) within

  pub wake_is_honest : (t : ℕ) → IsHonestEvent s (Wake t)
  wake_is_honest t = honest_with_rounds _ (wake s t) (honest_wake s t (omega (arith, fine.sound.homes t)))

  pub sleep_is_honest : (t : ℕ) → t < many → IsHonestEvent s (Sleep t)
  sleep_is_honest t within = honest_with_rounds _ (sleep s t) (honest_sleep s t (left_known t within) (λ c at. still_known t c within at))

  -- a tick leaves plain rules
  pub tick_plain : (c : ℕ) → c < length s.world.cpus → is_by_linux s ≡ false → is_by_linux (tick s c).state ≡ false
  tick_plain c l plain = plain_on (state_with_tree s (tree_after (Tick c) s.world)) (tick s c) (honest_tick s c (λ t at. ticked_known c t l at)) plain

  pub tick_is_honest : (c : ℕ) → c < length s.world.cpus → IsHonestEvent s (Tick c)
  tick_is_honest c l = honest_with_rounds _ (tick s c) (honest_tick s c (λ t at. ticked_known c t l at))

  pub weight_is_honest : (g x : ℕ) → machine.refusal s (SetWeight g x) ≡ None → IsHonestEvent s (SetWeight g x)
  weight_is_honest g x ok = honest_with_rounds _ (own_step s (SetWeight g x)) (honest_weight s g x _ (can_set s.world.tree g x ok))

  pub task_weight_is_honest : (t x : ℕ) → machine.refusal s (SetTaskWeight t x) ≡ None → IsHonestEvent s (SetTaskWeight t x)
  task_weight_is_honest t x ok = honest_with_rounds _ (own_step s (SetTaskWeight t x)) (honest_reweigh s t x (note_now s.world (note.TaskWeight t x) ∷ []) (can_set_own s.world.tree many t x fine.sound.members ok))

-- of an accepted event
pub record IsDecided (e : Event) (s : State) (r : Stepped) : Type 0 where
  pub clock : r.state.world.clock ≡ clock_after e s.world.clock
  pub tree : r.state.world.tree ≡ tree_after e s.world
  pub rules : r.state.world.rules ≡ s.world.rules
  pub policy : r.state.policy ≡ s.policy
  pub silent : (x : Eject) → s.world.ejected ≡ Some x → r.calls ≡ []

-- the clock: tasks are let go, timers run, and the watchdog looks
clock_decides : (s : State) → IsDecided Clock s (event_step s Clock)
clock_decides s = subst (λ (x : Stepped). IsDecided Clock s (with_rounds x)) (sym (clock_watched s)) (go (overdue r.state))
  where
    r : Stepped
    r = clocked s

    h : IsHonest (begun_ms s) r
    h = honest_clocked s

    go : (o : Option ℕ) → IsDecided Clock s (with_rounds (one_after_other r (eject_if_stalled o r.state)))
    go None = let i = honest_unwatched s in record { clock = i.clock; tree = i.tree; rules = i.rules; policy = i.policy; silent = i.silent }
    go (Some t) =
        let y = cause.Stall t r.state.world.clock in
        let w = eject r.state y in
        let sets = eject_sets r.state y in
        subst (λ (x : Stepped). IsDecided Clock s x) (sym (no_rounds (one_after_other r w) y sets.1))
        (record {
          clock = sets.0 ∙ h.clock;
          tree = sets.3 ∙ h.tree;
          rules = sets.4 ∙ h.rules;
          policy = eject_policy r.state y ∙ h.policy;
          silent = λ x out. none_of r.calls w.calls (h.silent x out) (eject_calls r.state y);
        })

decided : (v : Event) (s : State) → IsHonestEvent s v → clock_after v s.world.clock ≡ s.world.clock → IsDecided v s (event_step s v)
decided v s h now = record { clock = h.clock ∙ sym now; tree = h.tree; rules = h.rules; policy = h.policy; silent = h.silent }

-- after an accepted event clock, tree and policy are as it alone decides
pub decides : (s : State) (n : ℕ) (v : Event) → machine.refusal s v ≡ None → IsFineNow (length s.world.tasks) n n s.world → IsDecided v s (event_step s v)
decides s n v ok fine = go v (is_taken s v ok) ok
  where
    go : (v : Event) → IsTaken s v → machine.refusal s v ≡ None → IsDecided v s (event_step s v)
    go _ (Wakes t within resting) ok = decided (Wake t) s (wake_is_honest s n fine t) refl
    go _ (Sleeps t within runnable) ok = decided (Sleep t) s (sleep_is_honest s n fine t within) refl
    go _ (Ticks c l) ok = decided (Tick c) s (tick_is_honest s n fine c l) refl
    go _ Clocks ok = clock_decides s
    go _ (Weighs g x) ok = decided (SetWeight g x) s (weight_is_honest s n fine g x ok) refl
    go _ (WeighsTask t x within) ok = decided (SetTaskWeight t x) s (task_weight_is_honest s n fine t x ok) refl

-- of a machine between two events
pub step_decides : (s : State) (n : ℕ) (v : Event) → refusal (record { state = s; events = n }) v ≡ None → IsValid s n → EventsDecide (record { state = s; events = n }) v (record { state = (event_step s v).state; events = n + 1 })
step_decides s n v ok h =
    let before : SimState = record { state = s; events = n } in
    let d = decides s n v (accepted before v ok).taken h.fine in
    record { clock = d.clock; tree = d.tree; rules = d.rules; policy = d.policy; silent = λ x out. ap (λ o. calls_if o before v) ok ∙ d.silent x out; ran = run_times n s v (accepted before v ok).taken h.fine h.there; counted = refl }
