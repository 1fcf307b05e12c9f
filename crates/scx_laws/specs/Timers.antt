-- Timers of a policy, by cases: each that is due runs once, as the clock grows
-- (kernel/bpf/helpers.c, `bpf_timer_cb`).
use Rattle.std.specs.Prelude.{◌≡◌, ℕ, suc, ◌≤◌, true, length, Some, None}
use Rattle.scx_isa_semantics.specs.declared.callbacks.Callback.TheVariants as callback
use Rattle.scx_sched_world.specs.declared.timers.Alarm.{Alarm}
use Rattle.scx_sched_world.specs.World.{with_timer_at_hand}
use Rattle.scx_sched_world.specs.Helpers.{with_timer, alarm_at}
use Rattle.scx_sched_machine.specs.Steps.{State, Stepped, with_world, stays, one_after_other, is_by_linux}
use Rattle.scx_sched_machine.specs.Callbacks.{one_number}
use Rattle.scx_laws.specs.Differences.{CallsIfThere}

-- a timer of a policy in force that was started, and for a clock that has come
pub record IsDue (s : State) (n : ℕ) (a : Alarm) : Type 0 where
  pub by_linux : is_by_linux s ≡ true
  pub started : alarm_at s.world n ≡ Some a
  pub has_come : a.due ≤ s.world.clock

-- the state in which the timer isn't started any more, and its callback is at hand
abbrev pub ringing : State → ℕ → State
ringing s n = with_world s (with_timer_at_hand (with_timer s.world n None) (Some n))

-- the state in which no timer's callback is at hand
abbrev pub has_rung : State → State
has_rung s = with_world s (with_timer_at_hand s.world None)

-- a timer that is due runs, on the processor on which it was started; it may be started in that
pub data Fires (s : State) (n : ℕ) (r : Stepped) : Type 0 where
  NotYet : ((a : Alarm) → ¬ IsDue s n a) → r ≡ stays s → Fires s n r
  Rings : (a : Alarm) (told : Stepped)
      → IsDue s n a → CallsIfThere (ringing s n) callback.Timer (one_number n) 0 a.cpu told
      → r ≡ record told { state = has_rung told.state } → Fires s n r

-- the first timers, by number
pub data FiresFirst : ℕ → State → Stepped → Type 0 where
  NoTimer : (s : State) (r : Stepped) → r ≡ stays s → FiresFirst 0 s r
  NextTimer : (n : ℕ) (s : State) (before fired r : Stepped)
      → FiresFirst n s before → Fires before.state n fired → r ≡ one_after_other before fired
      → FiresFirst (suc n) s r

-- all timers
abbrev pub FiresAll : State → Stepped → Type 0
FiresAll s r = FiresFirst (length s.world.timers) s r
