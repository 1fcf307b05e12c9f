-- Steps of the machine that plain rules leave out.
use Rattle.std.proofs.Common.{◌≡◌, ℕ, zero, suc, Bool, true, false, not, ◌==◌, ◌&&◌, if◌then◌else◌, List, length, Option, Some, None, is_none, is_some, refl, ap, ◌∙◌}
use Rattle.scx_isa_semantics.specs.declared.callbacks.Callback.{Callback}
use Rattle.scx_isa_semantics.specs.declared.callbacks.Callback.TheVariants as callback
use Rattle.scx_vm.specs.Programs.{VerifiedProgram}
use Rattle.scx_vm.specs.declared.arguments.Args.{Args}
use Rattle.scx_dsq.specs.Queues.{front_of}
use Rattle.scx_sched_world.specs.declared.notes.Note.{Note}
use Rattle.scx_sched_world.specs.Ids.{local_on}
use Rattle.scx_sched_world.specs.World as world
use Rattle.scx_sched_world.specs.World.{WorldState, with_task, task_at, with_switch, switch_at, with_waker, with_slept, is_idle, choice, after_claim, cycling_by_linux, running}
use Rattle.scx_sched_world.specs.Tasks.{with_home, homed, after_switch, after_sleep}
use Rattle.scx_sched_policy.specs.Policy.{program_of}
use Rattle.scx_sched_machine.specs.Steps.{State, Stepped, stays, with_world, one_after_other, is_by_linux, kicked, kicked_if_idle}
use Rattle.scx_sched_machine.specs.Callbacks.{call_back, call_by_linux, one_task, two_numbers}
use Rattle.scx_sched_machine.specs.Custody.{tells_each, moved_as, hears_dequeue, tells_left, tells_dequeued, tells_dequeued_if}
use Rattle.scx_sched_machine.specs.Firing.{due, fires, fire, fire_below, fire_all}
use Rattle.scx_sched_machine.specs.Cycle.{keeps_slice, asks_again, switched, picked, give_up, tells_idle, tells_busy, cycling, falls_idle, hears_idle, becomes_idle, concluded}
use Rattle.scx_sched_machine.specs.Events.{inserted_by_choice, chosen, from_waker, told_of_sleep, falls_asleep, is_tick_time, hears_tick, tick_heard}
use Rattle.scx_sched_machine.specs.Rounds.{most_rounds, rounds, with_rounds}
use Rattle.scx_sched_world.specs.Helpers.{due_now, alarm_at}

module _ (w : WorldState) (plain : world.is_by_linux w ≡ false) where
  -- a task's processor is the one on which it ran last
  pub homed_plain : (t c : ℕ) → homed w t c ≡ w
  homed_plain t c = ap (λ b. if b then with_task w t (with_home (task_at w t) c) else w) plain

  -- no processor switches for longer than a moment
  pub switch_plain : (c : ℕ) → with_switch w c ≡ w
  switch_plain c = ap (λ b. if b then record w { passing = record w.passing { switching = switch_at w c } } else w) plain

module _ (s : State) (plain : is_by_linux s ≡ false) where
  -- callbacks that Linux rules call more aren't called
  pub by_linux_plain : (b : Callback) (a : Args) (t c : ℕ) → call_by_linux s b a t c ≡ stays s
  unfolding call_by_linux
  by_linux_plain b a t c = ap (λ d. if d && is_some (program_of s.policy b) then call_back s b a t c else stays s) plain

  -- nor does the policy hear of tasks that leave its custody
  pub told_plain : (c : ℕ) (ns : List Note) → tells_left s c ns ≡ stays s
  unfolding tells_left hears_dequeue
  told_plain c ns = let r = tells_each ns s c in ap (λ b. if b && is_some (program_of s.policy callback.Dequeue) then record r { state = moved_as s.world.call.has_moved r.state } else stays s) plain

  pub dequeued_plain : (b : Bool) (t c flags : ℕ) → (tells_dequeued_if b s t c flags).state ≡ s
  unfolding tells_dequeued
  dequeued_plain true t c flags = ap (λ (r : Stepped). r.state) (by_linux_plain callback.Dequeue _ t c)
  dequeued_plain false t c flags = refl

  -- of a tick
  pub heard_plain : (c t : ℕ) → tick_heard s c t ≡ stays s
  unfolding tick_heard hears_tick
  heard_plain c t = ap (λ b. if (b && is_some (program_of s.policy callback.Tick)) && is_tick_time s then call_back s callback.Tick (one_task t) t c else stays s) plain

  -- or of a processor that isn't idle any more
  pub busy_plain : (c : ℕ) (p : Option ℕ) (ran : Bool) → tells_busy s c p ran ≡ stays s
  unfolding tells_busy tells_idle
  busy_plain c None false = by_linux_plain callback.UpdateIdle (two_numbers c 0) 0 c
  busy_plain c None true = refl
  busy_plain c (Some t) ran = refl

  -- no task keeps a processor against the line
  pub kept_plain : (p : Option ℕ) → keeps_slice s p ≡ false
  kept_plain None = refl
  kept_plain (Some t) = ap (λ b. b && not ((task_at s.world t).slice == 0)) plain

  -- no slice is longer than was asked for
  pub switched_plain : (t : ℕ) → switched s t ≡ s
  unfolding switched
  switched_plain t = ap (λ b. if b && not (s.policy.tick_ms == 0) then with_world s (after_switch s.world t) else s) plain

  -- no task is picked before the one before has left
  pub picked_plain : (c : ℕ) → picked s c ≡ None
  unfolding picked
  picked_plain c = ap (λ b. if b then front_of s.world.queues (local_on c) else None) plain

  -- no processor is kicked
  pub kicked_plain : (c : ℕ) → kicked_if_idle s c ≡ s
  kicked_plain c = ap (λ b. if b && is_idle s.world c then kicked s c else s) plain

  pub give_up_plain : (c : ℕ) (p : Option ℕ) → give_up s c p ≡ s
  unfolding give_up
  give_up_plain c p = ap (λ b. if b && asks_again s c p then kicked s c else s) plain

  -- a cycle begins and ends, and no more
  pub cycling_plain : (o : Option ℕ) → cycling s o ≡ with_world s (record s.world { cycling = o })
  cycling_plain o = ap (λ b. with_world s (if b then cycling_by_linux s.world o else record s.world { cycling = o })) plain

  pub concluded_plain : (c : ℕ) (ran : Bool) → concluded s c ran ≡ stays (cycling s None)
  unfolding concluded falls_idle hears_idle
  concluded_plain c ran = go ran
    where
      go : (b : Bool) → (if b && ((is_by_linux s && is_some (program_of s.policy callback.UpdateIdle)) && is_none (running s.world c)) then becomes_idle s c else stays (cycling s None)) ≡ stays (cycling s None)
      go false = refl
      go true = ap (λ d. if (d && is_some (program_of s.policy callback.UpdateIdle)) && is_none (running s.world c) then becomes_idle s c else stays (cycling s None)) plain

  -- no processor is claimed for a task that wakes
  pub chosen_plain : (p : Option VerifiedProgram) (t : ℕ) → chosen p s t ≡ s
  chosen_plain None t = let w = s.world in ap (λ b. with_world s (if b then inserted_by_choice (after_claim w (choice w t)) (choice w t) else w)) plain
  chosen_plain (Some p) t = refl

  -- nor is it woken from one
  pub waker_plain : (t : ℕ) → from_waker s t ≡ s
  unfolding from_waker
  waker_plain t = ap (λ b. if b then with_world s (with_waker s.world (Some (task_at s.world t).prev_cpu)) else s) plain

  -- dispatch isn't told of a task that went to sleep
  pub slept_plain : (t : ℕ) → told_of_sleep s t ≡ s
  unfolding told_of_sleep
  slept_plain t = ap (λ b. if b then with_world s (with_slept s.world t) else s) plain

  -- no timer runs
  pub fire_plain : (n : ℕ) → fire s n ≡ stays s
  unfolding fire due
  fire_plain n = ap (λ b. fires (if b then due_now s.world (alarm_at s.world n) else None) s n) plain

-- a task sleeps, and the policy doesn't hear of it
pub asleep_plain : (s : State) (t : ℕ) → is_by_linux (with_world s (after_sleep s.world t)) ≡ false → (c : ℕ) → falls_asleep s t c ≡ stays (with_world s (after_sleep s.world t))
unfolding falls_asleep
asleep_plain s t plain c = by_linux_plain (with_world s (after_sleep s.world t)) plain _ _ t c

-- nor do several timers
below_plain : (n : ℕ) (s : State) → is_by_linux s ≡ false → (fire_below n s).state ≡ s
below_plain zero s plain = refl
below_plain (suc n) s plain = let same = below_plain n s plain in ap (λ (v : State). (fire v n).state) same ∙ ap (λ (r : Stepped). r.state) (fire_plain s plain n)

pub timers_plain : (s : State) → is_by_linux s ≡ false → (fire_all s).state ≡ s
unfolding fire_all
timers_plain s plain = below_plain (length s.world.timers) s plain

-- no round follows
pub rounds_plain : (r : Stepped) → is_by_linux r.state ≡ false → with_rounds r ≡ r
unfolding with_rounds
rounds_plain r plain = ap (λ b. if b then one_after_other r (rounds most_rounds r.state) else r) plain
