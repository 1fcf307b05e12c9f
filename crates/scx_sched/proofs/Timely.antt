-- No task waits too long while its policy is in force: each small step of a world keeps that.
use Rattle.std.proofs.Common.{◌≡◌, ℕ, ◌<◌, ◌≤◌, ◌⊎◌, inl, inr, false, length, Option, Some, None, cond, refl, subst, arith, ◌∙◌}
use Rattle.std.proofs.lemmas.Bool.{cases_lt, lt-ltb}
use Rattle.std.proofs.lemmas.Bool.Decides.{nat_tests}
use Rattle.std.specs.List.{position, position_or_len}
use Rattle.std.proofs.lemmas.List.Sums.{fails_before_first}
use Rattle.std.proofs.lemmas.List.{length-set, get_or_past}
use Rattle.scx_sched_tasks.specs.declared.task.Task.{Task}
use Rattle.scx_sched_tasks.specs.Tasks.{no_task}
use Rattle.scx_sched_tasks.specs.Waits.{time_since, is_late, is_overdue}
use Rattle.scx_sched_world.specs.World.{WorldState, with_task, task_at, wait}
use Rattle.scx_sched_world.specs.Tasks.{after_stop, ran_a_tick, after_tick}
use Rattle.scx_sched_world.specs.Waits.{first_overdue}
use Rattle.scx_sched.specs.Kept.{IsKeptBySteps}
use Rattle.scx_sched.proofs.Queries.{KeepsQueries, off_queues}
use Rattle.scx_sched.proofs.Written.{each_written}
use Rattle.scx_sched.proofs.Alone.{KeepsAlone, alone_steps}

abbrev pub IsInTime : ℕ → WorldState → Type 0
IsInTime limit w = w.ejected ≡ None → (t : ℕ) → wait w t ≤ limit

-- of so many tasks
abbrev pub AreInTime : ℕ → ℕ → WorldState → Type 0
AreInTime limit n w = (length w.tasks ≡ n) × IsInTime limit w

none_since : (now limit : ℕ) → time_since now None ≤ limit
none_since now limit = omega arith

now_since : (now limit : ℕ) → time_since now (Some now) ≤ limit
now_since now limit = omega arith

module _ (limit n : ℕ) where
  -- ---- records of tasks

  time_set : (w : WorldState) (t : ℕ) (x : Task) → (w.ejected ≡ None → time_since w.clock x.since ≤ limit) → AreInTime limit n w → AreInTime limit n (with_task w t x)
  time_set w t x new (many, old) = (length-set w.tasks t x ∙ many, λ force. each_written (λ u (y : Task). time_since w.clock y.since ≤ limit) w.tasks t x no_task (new force) (old force))

  -- another record of a task, which waits as long
  pub time_same : (w : WorldState) (t : ℕ) (x : Task) → x.since ≡ (task_at w t).since → AreInTime limit n w → AreInTime limit n (with_task w t x)
  time_same w t x same h = time_set w t x (λ force. rw same (h.1 force t)) h

  -- as a query makes one of its small changes, waits go on
  time_kept : KeepsQueries (AreInTime limit n)
  time_kept = off_queues (AreInTime limit n) (λ w x other h. h) (λ w m o later h. h) (λ w t s k c h. time_same w t _ refl h) (λ w q i m a b c d r ns h. h)

  -- ---- what an event does before it comes to small steps

  pub time_ticked : (w : WorldState) (t : ℕ) → AreInTime limit n w → AreInTime limit n (after_tick w t)
  time_ticked w t h = time_same w t (ran_a_tick (task_at w t)) refl h

  pub time_stopped : (w : WorldState) (c t : ℕ) → AreInTime limit n w → AreInTime limit n (after_stop w c t)
  time_stopped w c t h = time_set w t _ (λ force. now_since w.clock limit) h

  -- each small change of a world; after an ejection nothing is said
  pub time_alone : KeepsAlone n (AreInTime limit n)
  time_alone = record {
    known = λ w h. h.0;
    queries = time_kept;
    waits_now = λ w t h. time_set w t _ (λ force. now_since w.clock limit) h;
    waits_not = λ w t c h. time_set w t _ (λ force. none_since w.clock limit) h;
    builtin = λ w t s v h. time_same w t _ refl h;
    popped = λ w q h. h;
    out = λ w x h. (h.0, λ force. absurd (cc));
    rest = λ w cpus o x a b c tree call clock ns h. h;
  }

-- small steps keep it that under a policy in force nobody has waited for longer than the limit
pub time_steps : (limit n : ℕ) → IsKeptBySteps n (λ m hand on w. AreInTime limit n w)
time_steps limit n = alone_steps n (AreInTime limit n) (time_alone limit n)

-- ---- the clock

-- what is found not to be late has waited no longer than the limit
pub not_late : (now limit : ℕ) (o : Option ℕ) → is_late now limit o ≡ false → time_since now o ≤ limit
not_late now limit None e = omega arith
not_late now limit (Some n) e = grind (arith, nat_tests, e)

none_found : (w : WorldState) (limit t : ℕ) → position (is_overdue w.clock limit) w.tasks ≡ None → t < length w.tasks → is_overdue w.clock limit (task_at w t) ≡ false
none_found w limit t e l = fails_before_first (is_overdue w.clock limit) w.tasks t no_task (omega (arith, l, past (cases_lt (position_or_len (is_overdue w.clock limit) w.tasks) (length w.tasks))))
  where
    k : ℕ
    k = position_or_len (is_overdue w.clock limit) w.tasks

    some : Some k ≡ None → ⊥
    some x = absurd (cc)

    past : (k < length w.tasks) ⊎ (length w.tasks ≤ k) → length w.tasks ≤ k
    past (inl m) = absurd (some (subst (λ b. cond b (Some k) None ≡ None) (lt-ltb k (length w.tasks) m) e))
    past (inr m) = m

-- where nobody is late, nobody waits too long; a task that there isn't doesn't wait
pub nobody_late : (w : WorldState) (limit : ℕ) → first_overdue w limit ≡ None → (t : ℕ) → wait w t ≤ limit
nobody_late w limit e t = go (cases_lt t (length w.tasks))
  where
    go : (t < length w.tasks) ⊎ (length w.tasks ≤ t) → wait w t ≤ limit
    go (inl l) = not_late w.clock limit (task_at w t).since (none_found w limit t e l)
    go (inr past) = rw (get_or_past w.tasks t no_task past) (none_since w.clock limit)
