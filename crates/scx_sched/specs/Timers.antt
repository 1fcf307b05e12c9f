-- Timers: by Linux rules, while the policy is in force, each that was started is due later than the
-- clock; and each runs on a processor that is there.
use Rattle.std.specs.Prelude.{◌≡◌, ℕ, ◌<◌, true, length, Some}
use Rattle.scx_sched_world.specs.declared.timers.Alarm.{Alarm}
use Rattle.scx_sched_world.specs.World.{WorldState, is_by_linux}
use Rattle.scx_sched_world.specs.Helpers.{alarm_at}

-- no timer that was started is due at this clock or before; plain rules know none
abbrev pub AreTimersLater : WorldState → Type 0
AreTimersLater w =
    is_by_linux w ≡ true → (n : ℕ) (a : Alarm) → alarm_at w n ≡ Some a → w.clock < a.due

-- each timer that was started is to run on one of the machine's processors
abbrev pub AreTimersOnCpus : WorldState → Type 0
AreTimersOnCpus w = (n : ℕ) (a : Alarm) → alarm_at w n ≡ Some a → a.cpu < length w.cpus
