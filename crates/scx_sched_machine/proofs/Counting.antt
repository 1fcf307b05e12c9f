-- A task has run for a millisecond: what comes of it, by whether the policy hears of the tick and by what is left of its
-- slice.
use Rattle.std.proofs.Common.{◌≡◌, ℕ, Bool, true, false, ◌&&◌, nat_lt, length, if◌then◌else◌, Option, Some, None, is_some, unwrap_or, refl, sym, ap, ◌∙◌}
use Rattle.scx_isa_semantics.specs.declared.callbacks.Callback.TheVariants as callback
use Rattle.scx_weights.specs.Limits.{with_use}
use Rattle.scx_sched_world.specs.World.{WorldState, with_tree, task_at, is_throttled}
use Rattle.scx_sched_world.specs.Tasks.{after_tick, used_ms, slice_left}
use Rattle.scx_sched_machine.specs.Steps.{State, Stepped, with_world, stays, one_after_other, is_by_linux}
use Rattle.scx_sched_machine.specs.Callbacks.{call_back, one_task}
use Rattle.scx_sched_policy.specs.Policy.{program_of}
use Rattle.scx_sched_machine.specs.Events.{throttle, expire, use_up, is_tick_time, hears_tick, tick_heard, count_down}
use Rattle.scx_sched_machine.proofs.Choices.{keeps_if}

-- it has run for that long
abbrev ran : State → ℕ → State
ran s t = with_world s (after_tick s.world t)

-- and its groups have used it
abbrev counted : State → ℕ → State
counted s t = with_world s (used_ms (after_tick s.world t) t)

-- the policy hears of a tick or not, whatever the task ran
heard_after : (s : State) (t : ℕ) → hears_tick (ran s t) ≡ hears_tick s
unfolding hears_tick
heard_after s t = refl

-- what a millisecond comes to, where the policy hears of its tick or doesn't
abbrev counted_by : State → ℕ → ℕ → Bool → Stepped
counted_by s c t b =
    let r = if b then call_back (ran s t) callback.Tick (one_task t) t c else stays (ran s t) in
    one_after_other r (use_up r.state c t)

count_by_hearing : (s : State) (c t : ℕ) → count_down s c t ≡ counted_by s c t (hears_tick s)
unfolding count_down tick_heard
count_by_hearing s c t = ap (counted_by s c t) (heard_after s t)

-- the policy hears of the tick
pub count_heard : (s : State) (c t : ℕ) → hears_tick s ≡ true → count_down s c t ≡ (
    let r = call_back (with_world s (after_tick s.world t)) callback.Tick (one_task t) t c in
    one_after_other r (use_up r.state c t))
count_heard s c t e = count_by_hearing s c t ∙ ap (counted_by s c t) e

-- it doesn't
count_unheard : (s : State) (c t : ℕ) → hears_tick s ≡ false → count_down s c t ≡ use_up (ran s t) c t
count_unheard s c t e = count_by_hearing s c t ∙ ap (counted_by s c t) e

-- the task may not run any more
pub count_throttled : (s : State) (c t : ℕ) → hears_tick s ≡ false → slice_left (counted s t).world t ≡ None → count_down s c t ≡ throttle (counted s t) c t
unfolding use_up
count_throttled s c t unheard e = count_unheard s c t unheard ∙ go (is_throttled (counted s t).world t) (task_at (counted s t).world t).slice e
  where
    go : (b : Bool) (m : ℕ) → (if b then None else Some m) ≡ None → (if b then throttle (counted s t) c t else expire (counted s t) c t) ≡ throttle (counted s t) c t
    go true m e = refl
    go false m e = absurd (cc)

-- it may still run
pub count_left : (s : State) (c t : ℕ) → hears_tick s ≡ false → is_some (slice_left (counted s t).world t) ≡ true → count_down s c t ≡ expire (counted s t) c t
unfolding use_up
count_left s c t unheard e = count_unheard s c t unheard ∙ go (is_throttled (counted s t).world t) (task_at (counted s t).world t).slice e
  where
    go : (b : Bool) (m : ℕ) → is_some (if b then None else Some m) ≡ true → (if b then throttle (counted s t) c t else expire (counted s t) c t) ≡ expire (counted s t) c t
    go true m e = absurd (cc)
    go false m e = refl

-- what is left is what its record says
pub left_is : (w : WorldState) (t n : ℕ) → slice_left w t ≡ Some n → n ≡ (task_at w t).slice
left_is w t n e = go (is_throttled w t) (task_at w t).slice e
  where
    go : (b : Bool) (m : ℕ) → (if b then None else Some m) ≡ Some n → n ≡ m
    go true m e = absurd (cc)
    go false m e = sym (ap (λ (o : Option ℕ). unwrap_or o 0) e)

-- of a millisecond that a task ran for, and of whose tick the policy doesn't hear
pub ruleset counts = (count_throttled, count_left, left_is)

-- ---- by plain rules

-- no tick is heard
unheard : (s : State) → is_by_linux s ≡ false → hears_tick s ≡ false
unfolding hears_tick
unheard s plain = ap (λ b. (b && is_some (program_of s.policy callback.Tick)) && is_tick_time s) plain

-- the task may not run any more
pub plain_throttled : (s : State) (c t : ℕ) → is_by_linux s ≡ false → slice_left (counted s t).world t ≡ None → count_down s c t ≡ throttle (counted s t) c t
plain_throttled s c t plain e = count_throttled s c t (unheard s plain) e

-- it may still run
pub plain_left : (s : State) (c t : ℕ) → is_by_linux s ≡ false → is_some (slice_left (counted s t).world t) ≡ true → count_down s c t ≡ expire (counted s t) c t
plain_left s c t plain e = count_left s c t (unheard s plain) e

-- whatever a task ran, the machine still goes by plain rules
pub plain_counted : (s : State) (t : ℕ) → is_by_linux s ≡ false → is_by_linux (counted s t) ≡ false
plain_counted s t plain =
    let w = after_tick s.world t in
    keeps_if (λ (u : WorldState). is_by_linux (with_world s u) ≡ false) (nat_lt t (length w.tasks)) (with_tree w (with_use w.tree t)) w plain plain

-- of a millisecond that a task ran for by plain rules
pub ruleset counts_plainly = (plain_throttled, plain_left, left_is, plain_counted)
