-- Timers: each that is due runs once, as the clock grows, before the watchdog looks
-- (kernel/bpf/helpers.c, `bpf_timer_cb`).
use Rattle.std.specs.Prelude.{ℕ, zero, suc, length, if◌then◌else◌, Option, Some, None}
use Rattle.scx_isa_semantics.specs.declared.callbacks.Callback.TheVariants as callback
use Rattle.scx_sched_world.specs.declared.timers.Alarm.{Alarm}
use Rattle.scx_sched_world.specs.World.{with_timer_at_hand}
use Rattle.scx_sched_world.specs.Helpers.{alarm_at, due_now, after_fire}
use Rattle.scx_sched_machine.specs.Steps.{State, Stepped, with_world, stays, one_after_other, is_by_linux}
use Rattle.scx_sched_machine.specs.Callbacks.{call_by_linux, one_number}

-- when that timer was due, if it was by now and the policy is in force
unfoldable pub due : State → ℕ → Option Alarm
due s n = if is_by_linux s then due_now s.world (alarm_at s.world n) else None

-- no timer's callback is at hand any more
abbrev pub fired : State → State
fired s = with_world s (with_timer_at_hand s.world None)

-- the timer isn't started any more, and its callback runs on the processor on which it was started
abbrev pub fires : Option Alarm → State → ℕ → Stepped
fires None s n = stays s
fires (Some a) s n =
    let r = call_by_linux (with_world s (after_fire s.world n)) callback.Timer (one_number n) 0 a.cpu in
    record r { state = fired r.state }

-- that timer runs, if it is due
unfoldable pub fire : State → ℕ → Stepped
fire s n = fires (due s n) s n

-- the first n timers, by number
abbrev pub fire_below : ℕ → State → Stepped
fire_below zero s = stays s
fire_below (suc n) s = let r = fire_below n s in one_after_other r (fire r.state n)

-- all timers
unfoldable pub fire_all : State → Stepped
fire_all s = fire_below (length s.world.timers) s
