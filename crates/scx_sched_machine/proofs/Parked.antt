-- Tasks are parked, and let go, one after another.
use Rattle.std.proofs.Common.{arith, ◌≡◌, ℕ, zero, suc, ◌-◌, ◌<◌, Option, Some, None, true, false, refl, sub-one}
use Rattle.scx_dsq.specs.Queues.{len_of, front_of, behind_of}
use Rattle.scx_sched_world.specs.World.{is_throttled}
use Rattle.scx_sched_world.specs.Tasks.{after_leave}
use Rattle.scx_sched_world.specs.Kept.{NobodyIsFree}
use Rattle.scx_sched_world.proofs.Fronts.{AtParked, at_front, at_behind}
use Rattle.scx_sched_world.specs.Ids.{global, local_on, parked_queue}
use Rattle.scx_sched_machine.specs.Steps.{State, with_world, stays, one_after_other}
use Rattle.scx_sched_machine.specs.Filling.{fill}
use Rattle.scx_sched_machine.specs.Parking.{park, throttled_front, throttled_next, park_next, clear, let_go_one, let_go_from}

-- ---- the first tasks of a queue that may run on a processor

-- none is left to look at
pub next_none : (n q c : ℕ) (s : State) → n ≡ 0 → park_next n s q c ≡ stays s
unfolding park_next
next_none zero q c s e = refl
next_none (suc n) q c s e = absurd (omega (arith, e))

-- the first of them isn't throttled, or there is none
pub next_last : (n q c : ℕ) (s : State) → throttled_next s q c ≡ None → park_next n s q c ≡ stays s
unfolding park_next
next_last zero q c s e = refl
next_last (suc n) q c s e = rw e refl

-- the first of them is parked
pub next_more : (n q c t : ℕ) (s : State) → 0 < n → throttled_next s q c ≡ Some t
    → park_next n s q c ≡ one_after_other (park (with_world s (after_leave s.world t)) t) (park_next (n - 1) (park (with_world s (after_leave s.world t)) t).state q c)
unfolding park_next
next_more zero q c t s l e = absurd (omega (arith, l))
next_more (suc n) q c t s l e = rw (e, sub-one) refl

pub ruleset park_next_steps = (next_none, next_last, next_more)

-- ---- fronts of a local queue, which is filled

-- with no round left, nothing more of a local queue is filled or parked
pub clear_none : (n c : ℕ) (s : State) → n ≡ 0 → clear n s c ≡ stays s
unfolding clear
clear_none zero c s e = refl
clear_none (suc n) c s e = absurd (omega (arith, e))

-- once a fill leaves no front that may not run, no round is needed any more
pub clear_last : (n c : ℕ) (s : State) → 0 < n → throttled_front (fill s global c).state (local_on c) ≡ None → clear n s c ≡ one_after_other (fill s global c) (stays (fill s global c).state)
unfolding clear
clear_last zero c s l e = absurd (omega (arith, l))
clear_last (suc n) c s l e = rw e refl

-- a front that may not run after a fill is parked, and one round less is left
pub clear_more : (n c t : ℕ) (s : State) → 0 < n → throttled_front (fill s global c).state (local_on c) ≡ Some t
    → clear n s c ≡ (
    let v = (fill s global c).state in
    let p = park (with_world v (after_leave v.world t)) t in
    one_after_other (fill s global c) (one_after_other p (clear (n - 1) p.state c)))
unfolding clear
clear_more zero c t s l e = absurd (omega (arith, l))
clear_more (suc n) c t s l e = rw (e, sub-one) refl

pub ruleset clear_steps = (clear_none, clear_last, clear_more)

-- ---- the parked

-- with no task left to look at, nobody is let go
pub go_none : (n : ℕ) (s : State) (o : Option ℕ) → n ≡ 0 → let_go_from n s o ≡ stays s
unfolding let_go_from
go_none zero s o e = refl
go_none (suc n) s o e = absurd (omega (arith, e))

-- behind the last of the parked, nobody is let go
pub go_nobody : (n : ℕ) (s : State) (o : Option ℕ) → o ≡ None → let_go_from n s o ≡ stays s
unfolding let_go_from
go_nobody zero s o e = refl
go_nobody (suc n) s o e = rw e refl

-- one that may not run stays
pub go_past : (n t : ℕ) (s : State) → 0 < n → is_throttled s.world t ≡ true → let_go_from n s (Some t) ≡ let_go_from (n - 1) s (behind_of s.world.queues t)
unfolding let_go_from
go_past zero t s l e = absurd (omega (arith, l))
go_past (suc n) t s l e = rw (e, sub-one) refl

-- one that may is let go
pub go_one : (n t : ℕ) (s : State) → 0 < n → is_throttled s.world t ≡ false → let_go_from n s (Some t) ≡ one_after_other (let_go_one s t) (let_go_from (n - 1) (let_go_one s t).state (behind_of s.world.queues t))
unfolding let_go_from
go_one zero t s l e = absurd (omega (arith, l))
go_one (suc n) t s l e = rw (e, sub-one) refl

-- nobody may, so nobody is
pub go_nowhere : (n : ℕ) (s : State) (o : Option ℕ) → NobodyIsFree s.world → AtParked s.world.queues o → let_go_from n s o ≡ stays s
unfolding let_go_from
go_nowhere zero s o h at = refl
go_nowhere (suc n) s None h at = refl
go_nowhere (suc n) s (Some t) h at =
    let next = behind_of s.world.queues t in
    rw (h t at) (go_nowhere n s next h (at_behind s.world.queues t next at refl))

-- from the front on
pub all_stay : (n : ℕ) (s : State) (o : Option ℕ) → NobodyIsFree s.world → front_of s.world.queues parked_queue ≡ o → let_go_from n s o ≡ stays s
all_stay n s o h e = go_nowhere n s o h (at_front s.world.queues o e)

-- where nobody is parked who may run again, nobody is let go
pub none_let_go : (s : State) → NobodyIsFree s.world → let_go_from (len_of s.world.queues parked_queue) s (front_of s.world.queues parked_queue) ≡ stays s
none_let_go s h = all_stay (len_of s.world.queues parked_queue) s (front_of s.world.queues parked_queue) h refl

pub ruleset let_go_steps = (go_none, go_nobody, go_past, go_one)
