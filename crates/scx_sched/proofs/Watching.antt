-- The watchdog: while a policy is in force no event lets a task wait longer than the policy may.
use Rattle.std.proofs.Common.{◌≡◌, ℕ, ◌+◌, ◌<◌, ◌≤◌, List, length, get_or, Option, Some, None, is_some, is_none, nat_lt, if◌then◌else◌, refl, sym, ap, ◌∙◌, subst, arith}
use Rattle.scx_weights.specs.Hierarchy.{with_weight}
use Rattle.scx_weights.specs.Limits.{with_use}
use Rattle.scx_weights.specs.Refusals.{weight_fault}
use Rattle.scx_sched_world.specs.declared.eject.Eject.{Eject}
use Rattle.scx_sched_world.specs.declared.eject.Eject.TheVariants as cause
use Rattle.scx_sched_world.specs.World.{WorldState, with_task, task_at, with_tree, wait}
use Rattle.scx_sched_world.specs.Tasks.{with_since, after_leave, used_ms, later, begun_periods}
use Rattle.scx_sched_world.specs.Waits.{first_overdue}
use Rattle.scx_sched_machine.specs.declared.events.Event.{Event}
use Rattle.scx_sched_policy.specs.Policy.{PolicyState}
use Rattle.scx_sched_machine.specs.Steps.{State, with_world}
use Rattle.scx_sched_machine.specs.Parking.{let_all_go}
use Rattle.scx_sched_machine.specs.Ejecting.{eject}
use Rattle.scx_sched_machine.specs.Firing.{fire_all}
use Rattle.scx_sched_machine.specs.Events.{refusal, overdue, eject_if_stalled, clock, own_step, event_step, watch, timers_and_watchdog}
use Rattle.scx_sched_machine.proofs.Choices.{keeps_if}
use Rattle.scx_sched.specs.Kept.{IsKeptBySteps}
use Rattle.scx_sched.specs.Ranges.{IsFine}
use Rattle.scx_sched.proofs.Unchanged.{eject_sets}
use Rattle.scx_sched.proofs.Blaming.{apart, honest_let_all_go, honest_fire_all}
use Rattle.scx_sched.proofs.Fine.{fine_steps}
use Rattle.scx_sched.proofs.Timely.{IsInTime, AreInTime, time_ticked, time_stopped, time_alone, nobody_late}
use Rattle.scx_sched.proofs.Events.{IsKeptByEvents, IsKeptByTick, IsTaken, Wakes, Sleeps, Ticks, Clocks, Weighs, is_taken, IsFineNow, fine_events, one_more, fine_ticked, fine_clock, fine_reweighed, keeps_wake, keeps_sleep, keeps_tick, keeps_with_rounds, WeighsTask, keeps_now, keeps_reweigh}
use Rattle.scx_sched.proofs.Alone.{KeepsAlone, alone_tree, alone_weighed, alone_steps}

-- ---- two facts at once

pub record Both (I J : ℕ → Option ℕ → List (Option ℕ) → WorldState → Type 0) (m : ℕ) (hand : Option ℕ) (on : List (Option ℕ)) (w : WorldState) : Type 0 where
  pub one : I m hand on w
  pub two : J m hand on w

-- where small steps keep each of two facts, they keep both
pub both_steps : (n : ℕ) (I J : ℕ → Option ℕ → List (Option ℕ) → WorldState → Type 0) → IsKeptBySteps n I → IsKeptBySteps n J → IsKeptBySteps n (Both I J)
both_steps n I J a b = record {
  more = λ m hand on w h. record { one = a.more m hand on w h.one; two = b.more m hand on w h.two };
  known = λ m hand on w h. a.known m hand on w h.one;
  query = λ m hand on w q h. record { one = a.query m hand on w q h.one; two = b.query m hand on w q h.two };
  begun = λ m hand on w x t c l h. record { one = a.begun m hand on w x t c l h.one; two = b.begun m hand on w x t c l h.two };
  quiet = λ m hand on w h. record { one = a.quiet m hand on w h.one; two = b.quiet m hand on w h.two };
  moved = λ m hand on w c h. record { one = a.moved m hand on w c h.one; two = b.moved m hand on w c h.two };
  cancelled = λ m hand on w t h. record { one = a.cancelled m hand on w t h.one; two = b.cancelled m hand on w t h.two };
  cycling = λ m hand on w o h. record { one = a.cycling m hand on w o h.one; two = b.cycling m hand on w o h.two };
  ended = λ m hand on w h. record { one = a.ended m hand on w h.one; two = b.ended m hand on w h.two };
  sets = λ m hand on w c x y z o waker h. record { one = a.sets m hand on w c x y z o waker h.one; two = b.sets m hand on w c x y z o waker h.two };
  wakes = λ m hand on w o l h. record { one = a.wakes m hand on w o l h.one; two = b.wakes m hand on w o l h.two };
  homed = λ m hand on w t c l may h. record { one = a.homed m hand on w t c l may h.one; two = b.homed m hand on w t c l may h.two };
  sliced = λ m hand on w t k h. record { one = a.sliced m hand on w t k h.one; two = b.sliced m hand on w t k h.two };
  wants = λ m hand on w c l calm may h. record { one = a.wants m hand on w c l calm may h.one; two = b.wants m hand on w c l calm may h.two };
  entered = λ m on w t i l x may h. record { one = a.entered m on w t i l x may h.one; two = b.entered m on w t i l x may h.two };
  filled = λ m on w q c apart l h. record { one = a.filled m on w q c apart l h.one; two = b.filled m on w q c apart l h.two };
  stopped = λ m on w c t l within runs h. record { one = a.stopped m on w c t l within runs h.one; two = b.stopped m on w c t l within runs h.two };
  started = λ m on w c t l free front may h. record { one = a.started m on w c t l free front may h.one; two = b.started m on w c t l free front may h.two };
  ran = λ m on w c t l free here may h. record { one = a.ran m on w c t l free here may h.one; two = b.ran m on w c t l free here may h.two };
  put_parked = λ m on w t l may-not h. record { one = a.put_parked m on w t l may-not h.one; two = b.put_parked m on w t l may-not h.two };
  left = λ m on w q t apart there h. record { one = a.left m on w q t apart there h.one; two = b.left m on w q t apart there h.two };
  kept = λ m on w t h. record { one = a.kept m on w t h.one; two = b.kept m on w t h.two };
  asleep = λ m on w t l h. record { one = a.asleep m on w t l h.one; two = b.asleep m on w t l h.two };
  put_out = λ m hand on w x h. record { one = a.put_out m hand on w x h.one; two = b.put_out m hand on w x h.two };
  evict = λ m hand on w t l h. record { one = a.evict m hand on w t l h.one; two = b.evict m hand on w t l h.two };
  cut = λ m hand on w t h. record { one = a.cut m hand on w t h.one; two = b.cut m hand on w t h.two };
  put_builtin = λ m on w t l h. record { one = a.put_builtin m on w t l h.one; two = b.put_builtin m on w t l h.two };
  overtaken = λ m hand on w t h. record { one = a.overtaken m hand on w t h.one; two = b.overtaken m hand on w t h.two };
  charged = λ m hand on w t out h. record { one = a.charged m hand on w t out h.one; two = b.charged m hand on w t out h.two };
}

-- where small steps keep what is said of the world alone, events keep it with each task in its place
pub alone_events : (n e : ℕ) (P : WorldState → Type 0) → KeepsAlone n P → IsKeptByEvents n (Both (IsFine n e) (λ m hand on w. P w))
alone_events n e P k = record {
  steps = both_steps n (IsFine n e) (λ m hand on w. P w) (fine_steps n e) (alone_steps n P k);
  sound = λ m hand on w h. h.one.sound;
  allowed = λ m hand on w h. h.one.allowed;
  woken = λ m on w t within resting h. record { one = (fine_events n e).woken m on w t within resting h.one; two = alone_tree n P k (with_task w t (with_since (task_at w t) (Some w.clock))) _ (k.waits_now w t h.two) };
  let_go = λ m on w t within there h. record { one = (fine_events n e).let_go m on w t within there h.one; two = k.queries.removed (with_task w t (with_since (task_at w t) (Some w.clock))) t (k.waits_now w t h.two) };
  left = λ m on w t within runnable off h. record { one = (fine_events n e).left m on w t within runnable off h.one; two = (alone_steps n P k).asleep m on (after_leave w t) t within (k.queries.removed w t h.two) };
  removed = λ m on w t within here h. record { one = (fine_events n e).removed m on w t within here h.one; two = k.queries.removed w t h.two };
  weighed = λ m hand on w t x h. record { one = (fine_events n e).weighed m hand on w t x h.one; two = alone_weighed n P k w t x h.two };
  anew = λ m j on w force h. record { one = (fine_events n e).anew m j on w force h.one; two = h.two };
}

-- each task in its place, and in time
abbrev IsWatched : ℕ → ℕ → ℕ → ℕ → Option ℕ → List (Option ℕ) → WorldState → Type 0
IsWatched limit n e = Both (IsFine n e) (λ m hand on w. AreInTime limit n w)

watched_events : (limit n e : ℕ) → IsKeptByEvents n (IsWatched limit n e)
watched_events limit n e = alone_events n e (AreInTime limit n) (time_alone limit n)

-- ---- the clock

-- a policy in force of which nobody is found lets nobody wait too long
none_late : (s : State) → s.world.ejected ≡ None → overdue s ≡ None → first_overdue s.world s.policy.timeout_ms ≡ None
none_late s force e = go s.world.ejected force e
  where
    go : (o : Option Eject) → o ≡ None → (if is_some o then None else first_overdue s.world s.policy.timeout_ms) ≡ None → first_overdue s.world s.policy.timeout_ms ≡ None
    go None f e = e
    go (Some x) f e = absurd (cc)

time_clock : (limit : ℕ) (s : State) → limit ≡ s.policy.timeout_ms → IsInTime limit (clock s).state.world
unfolding clock timers_and_watchdog watch
time_clock limit s is = go (overdue r) refl
  where
    v : State
    v = with_world s (begun_periods (later s.world))

    l : State
    l = (let_all_go v).state

    r : State
    r = (fire_all l).state

    same : limit ≡ r.policy.timeout_ms
    same = is ∙ ap (λ (p : PolicyState). p.timeout_ms) (sym ((honest_fire_all l).policy ∙ (honest_let_all_go v).policy))

    go : (o : Option ℕ) → overdue r ≡ o → IsInTime limit (eject_if_stalled o r).state.world
    go None e force = subst (λ (k : ℕ). (t : ℕ) → wait r.world t ≤ k) (sym same) (nobody_late r.world r.policy.timeout_ms (none_late r force e))
    go (Some t) e force = let x = cause.Stall t r.world.clock in absurd (apart (eject r x).state.world.ejected x force (eject_sets r x).1)

-- after any accepted event
pub time_step : (limit n e : ℕ) (s : State) (v : Event) → length s.world.tasks ≡ n → refusal s v ≡ None → limit ≡ s.policy.timeout_ms → IsFineNow n e e s.world → IsInTime limit s.world → IsInTime limit (event_step s v).state.world
time_step limit n e s v tasks ok is fine time = let x = (keeps_with_rounds n I k e (own_step s v) (go v (is_taken s v ok))).two in x.1
  where
    I : ℕ → Option ℕ → List (Option ℕ) → WorldState → Type 0
    I = IsWatched limit n (e + 1)

    k : IsKeptByEvents n I
    k = watched_events limit n (e + 1)

    old : AreInTime limit n s.world
    old = (tasks, time)

    h : I e None s.world.cpus s.world
    h = record { one = one_more n e e s.world fine; two = old }

    ticks : (c t : ℕ) → c < length s.world.cpus → get_or s.world.cpus c None ≡ Some t → IsKeptByTick n I k e s.world c t
    ticks c t l at =
        let x = fine_ticked n e e s.world c t l at fine in
        record {
          ran = record { one = x.ran; two = time_ticked limit n s.world t old };
          uses = λ w same tree h.
              let z = x.uses w same tree h.one in
              let y = keeps_if (AreInTime limit n) (nat_lt t (length w.tasks)) (with_tree w (with_use w.tree t)) w h.two h.two in
              record {
                goes_on = λ free. record { one = z.goes_on free; two = y };
                leaves = λ up. record { one = z.leaves up; two = time_stopped limit n (used_ms w t) c t y };
              };
        }

    go : (v : Event) → IsTaken s v → I (e + 1) None (own_step s v).state.world.cpus (own_step s v).state.world
    go _ (Wakes t within resting) = k.steps.more e None _ _ (keeps_wake n I k e s t (omega (arith, within, tasks)) resting h)
    go _ (Sleeps t within runnable) = keeps_sleep n I k e s t (omega (arith, within, tasks)) runnable h
    go _ (Ticks c l) = keeps_tick n I k e s c l h (λ t at. ticks c t l at)
    go _ Clocks =
        let x = fine_clock n e s fine in
        record { one = (fine_events n (e + 1)).steps.more e None _ _ x; two = (x.sound.tasks, time_clock limit s is) }
    go _ (Weighs g x) = record {
      one = (fine_events n (e + 1)).steps.more e None _ _ (fine_reweighed n (e + 1) e s.world g x (one_more n e e s.world fine));
      two = keeps_if (AreInTime limit n) (is_none (weight_fault s.world.tree g x)) (with_tree s.world (with_weight s.world.tree g x)) s.world old old;
    }
    go _ (WeighsTask t x within) = k.steps.more e None _ _ (keeps_now n I k e _ (s.world.cpus, keeps_reweigh n I k e s t x (omega (arith, within, tasks)) h))
