-- Timers that are due, one after another.
use Rattle.std.proofs.Common.{◌≡◌, ℕ, ◌+◌, length, refl, ap, add-one}
use Rattle.scx_sched_machine.specs.Steps.{State, stays, one_after_other}
use Rattle.scx_sched_machine.specs.Firing.{fire, fire_below, fire_all}

-- one timer more
pub fired_next : (n : ℕ) (s : State) → fire_below (n + 1) s ≡ one_after_other (fire_below n s) (fire (fire_below n s).state n)
fired_next n s = rw add-one refl

-- there is none
pub fire_none : (s : State) → length s.world.timers ≡ 0 → fire_all s ≡ stays s
unfolding fire_all
fire_none s e = ap (λ n. fire_below n s) e
